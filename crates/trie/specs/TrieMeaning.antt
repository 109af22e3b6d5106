-- What a trie means, and the row for one key more. Assumes nothing.
use Rattle.std.specs.Prelude.{◌≡◌, ℕ, not, List, length}
use Rattle.dictionary.specs.Meaning.{Meaning, meaning, most}
use Rattle.trie.specs.Bits.{bit, number}
use Rattle.trie.specs.Trie.{keys, link_number, side}
use Rattle.trie.specs.declared.patricia.Trie.{Trie}
use Rattle.trie.specs.declared.place.Place.{Place}
use Rattle.trie.specs.declared.row.Hook.{Hook}
use Rattle.trie.specs.declared.row.TrieRow.{TrieRow}

-- what the bound of K says of it belongs to the type of a trie
abbrev pub meaning_of : {K : Type 0} {key : _} → Trie K key → Meaning K
meaning_of t = meaning (keys t.rows.now t.used) (most (length t.rows.now)) t.asks

-- a row for the next key, k, where n rows hold keys: its leaf, and an inner node that tests the place, with the leaf on the
-- key's own side and the hook's link on the other
pub record Forks {K : Type 0} (spelling : K → List ℕ) (n : ℕ) (k : K) (p : Place) (h : Hook) (w : TrieRow K) : Type 0 where
  pub key : w.key ≡ k
  pub place : w.place ≡ p
  pub own : side (bit (spelling k) (number p)) w ≡ n
  pub other : side (not (bit (spelling k) (number p))) w ≡ link_number h.link
