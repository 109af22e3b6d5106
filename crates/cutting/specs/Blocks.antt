-- The blocks of a row. Assumes nothing.
--     glue b x bs        x before the blocks bs of what follows it: alone if a block begins after it
--     parted f i xs      the blocks of a part of a row that stands at place i, where f says at which places one begins
--     blocks xs          the blocks of the row xs
--     flat bs            their names, one after the other
--     Fit b              a block of two to six names
--     BlocksPart         the blocks part the row
--     BlocksFit          in a lawful row of two names or more each block has two to six names
--     BlocksHalf         so there are at most half as many blocks as names
--     BlocksBegin        a front of the blocks ends where a block begins, and both parts of the row are cut by the row's own cuts
--     Span n c s e       by places: the block that begins at s ends before e
--     BlockAt            in a lawful row of two names or more a block of two to six names begins at each place where one begins
--     BeginsNear         in a lawful row a block begins at one of any four places that follow each other, the first two places and the last one left out
use Rattle.std.specs.Prelude.{◌≡◌, ℕ, suc, ◌+◌, ◌*◌, ◌<◌, ◌≤◌, Bool, true, false, ◌⊎◌, List, [], ◌∷◌, ◌++◌, length}
use Rattle.std.specs.List.{flat_map, AllByRecursion}
use Rattle.cutting.specs.Rule.{begins}
use Rattle.cutting.specs.Rows.{cuts, Apart, AtMost, Lawful}

unfoldable pub glue : Bool → ℕ → List (List ℕ) → List (List ℕ)
glue true x bs = (x ∷ []) ∷ bs
glue false x [] = (x ∷ []) ∷ []
glue false x (b ∷ bs) = (x ∷ b) ∷ bs

unfoldable pub parted : (ℕ → Bool) → ℕ → List ℕ → List (List ℕ)
parted f i [] = []
parted f i (x ∷ xs) = glue (f (suc i)) x (parted f (suc i) xs)

unfoldable pub blocks : List ℕ → List (List ℕ)
blocks xs = parted (cuts xs) 0 xs

abbrev pub flat : List (List ℕ) → List ℕ
flat bs = flat_map (λ b. b) bs

abbrev pub Fit : List ℕ → Type 0
Fit b = (2 ≤ length b) × (length b ≤ 6)

abbrev pub BlocksPart : Type 0
BlocksPart = (xs : List ℕ) → flat (blocks xs) ≡ xs

abbrev pub BlocksFit : Type 0
BlocksFit = (xs : List ℕ) → 2 ≤ length xs → Lawful xs → AllByRecursion Fit (blocks xs)

abbrev pub BlocksHalf : Type 0
BlocksHalf = (xs : List ℕ) → 2 ≤ length xs → Lawful xs → 2 * length (blocks xs) ≤ length xs

pub record FrontOf (xs : List ℕ) (before : List (List ℕ)) (after : List (List ℕ)) : Type 0 where
  pub begins : 0 < length after → cuts xs (length (flat before)) ≡ true
  pub front : before ≡ parted (cuts xs) 0 (flat before)
  pub rest : after ≡ parted (cuts xs) (length (flat before)) (flat after)
  pub names : flat before ++ flat after ≡ xs

abbrev pub BlocksBegin : Type 0
BlocksBegin = (xs : List ℕ) (before after : List (List ℕ)) → blocks xs ≡ before ++ after → FrontOf xs before after

pub record Span (n : ℕ) (c : ℕ → ℕ) (s e : ℕ) : Type 0 where
  pub ends : (e ≡ n) ⊎ (begins n c e ≡ true)
  pub inside : (k : ℕ) → s < k → k < e → begins n c k ≡ false
  pub within : e ≤ n
  pub two : s + 2 ≤ e
  pub six : e ≤ s + 6

abbrev pub BlockAt : Type 0
BlockAt = (n : ℕ) (c : ℕ → ℕ) → 2 ≤ n → Apart n c → AtMost 16777216 n c → (s : ℕ) → s < n → begins n c s ≡ true → (e : ℕ) × Span n c s e

abbrev pub BeginsNear : Type 0
BeginsNear = (n : ℕ) (c : ℕ → ℕ) → Apart n c → AtMost 16777216 n c → (p : ℕ) → p + 6 < n → (s : ℕ) × (p + 2 ≤ s) × (s ≤ p + 5) × (begins n c s ≡ true)
