-- The search tree in the rows, as the code has them. Assumes nothing.
use Rattle.std.proofs.Common.{◌≡◌, ℕ, suc, ◌+◌, ◌<◌, ◌≤◌, Ok, Err, Result, ◌⊎◌, List, [], ◌∷◌, ◌++◌, length, get_or, drop, set, Some, Ordering, Equal, sym, ap, ◌∙◌, subst, inl, inr, ⊎_elim, add-one, arith}
use Rattle.std.specs.List.{slice_get}
use Rattle.std.proofs.lemmas.List.{length-set, drop-set-lt}
use Rattle.std.proofs.lemmas.Bool.{cases_lt, cases_eq}
use Rattle.dictionary.specs.Rows.{column}
use Rattle.search_tree.specs.Tree.{Links, root, walk, found, turns, sought, keys, lefts, rights, Linked, InOrder, ends}
use Rattle.search_tree.specs.declared.row.TreeRow.{TreeRow}
use Rattle.dictionary.specs.declared.rows.Slot.{Slot}
use Rattle.dictionary.specs.declared.rows.Slot.TheVariants.{Root, Left, Right}
use Rattle.search_tree.proofs.Grows.{Empty, ends_empty, Grown, links_grown, reached_grown}
use Rattle.dictionary.specs.Facts.{held_long}
use Rattle.dictionary.proofs.Held.{held_more, held_kept, column_same, column_other, column_kept}

-- the slot has no link yet
abbrev pub Free : {K : Type 0} → List (TreeRow K) → ℕ → Slot → Type 0
Free rows n Root = n ≡ 0
Free rows n (Left p) = (p < n) × (lefts rows p ≡ 0)
Free rows n (Right p) = (p < n) × (rights rows p ≡ 0)

module _ {K : Type 0} (order : K → K → Ordering) (rows : List (TreeRow K)) (n : ℕ) (k : K) (long : n < length rows) (links : Linked n rows) where
  abbrev turn : ℕ → Ordering
  turn = turns order (keys rows n) k

  abbrev At : Result ℕ Slot → Type 0
  At (Ok i) = Unit {0}
  At (Err t) = Free rows n t

  free_from : (r : Result ℕ Slot) → Empty turn (lefts rows) (rights rows) n links r → At r
  free_from (Ok i) h = tt
  free_from (Err Root) h = absurd h
  free_from (Err (Left p)) h = h
  free_from (Err (Right p)) h = h

  pub free : (t : Slot) → Err t ≡ ends order n rows k → Free rows n t
  free t e =
      subst At (ap (λ m. walk turn (lefts rows) (rights rows) m Root (root m)) (sym (held_long (λ w. w.key) rows n (omega arith))) ∙ sym e)
      (⊎_elim
      (λ (q : 0 < n). subst (λ m. At (walk turn (lefts rows) (rights rows) n Root m)) (let one : 1 ≡ root n = omega arith in one) (free_from _ (ends_empty turn (lefts rows) (rights rows) n links n Root 0 q (omega arith))))
      (λ (q : n ≤ 0). subst (λ m. At (walk turn (lefts rows) (rights rows) n Root m)) (let none : 0 ≡ root n = omega arith in none) (let z : n ≡ 0 = omega arith in z))
      (cases_lt 0 n))

-- what is to be shown of the rows with one more, for k
pub record Hung {K : Type 0} (order : K → K → Ordering) (rows : List (TreeRow K)) (n : ℕ) (k : K) (rows' : List (TreeRow K)) : Type 0 where
  pub linked : Linked (n + 1) rows'
  pub held : keys rows' (n + 1) ≡ keys rows n ++ k ∷ []
  pub ordered : InOrder order (n + 1) rows'
  pub rest : drop (n + 1) rows' ≡ drop (n + 1) rows

-- A row for k at the end, and then at p a row v that differs from what stands there in a link at most.
module _ {K : Type 0} (order : K → K → Ordering) (rows : List (TreeRow K)) (n : ℕ) (k : K) (itself : order k k ≡ Equal) (long : n < length rows) (links : Linked n rows) (reached : InOrder order n rows) (fresh : TreeRow K) (blank : (fresh.key ≡ k) × (fresh.left.0 ≡ 0) × (fresh.right.0 ≡ 0)) where
  abbrev pub longer : List (TreeRow K)
  longer = set rows n fresh

  n_long : length (keys rows n) ≡ n
  n_long = held_long (λ w. w.key) rows n (omega arith)

  before : (i : ℕ) → i < n → i ≡ n → ⊥
  before i h e = omega arith

  post : (rows' : List (TreeRow K)) (t : Slot) → Err t ≡ ends order n rows k → Grown n (lefts rows) (rights rows) (lefts rows') (rights rows') t → keys rows' (n + 1) ≡ keys rows n ++ k ∷ [] → drop (n + 1) rows' ≡ drop (n + 1) rows → Hung order rows n k rows'
  post rows' t e grown is rest = record {
    linked = subst (λ m. Linked m rows') (sym (add-one n)) (links_grown n _ _ _ _ t grown links);
    held = is;
    ordered = λ i y.
        subst (λ ks. slice_get ks i ≡ Some y → found (sought order ks (lefts rows') (rights rows') y) ≡ suc i) (sym is)
        (reached_grown order (keys rows n) k itself (lefts rows) (rights rows) (lefts rows') (rights rows') t
        (subst (λ m. Grown m (lefts rows) (rights rows) (lefts rows') (rights rows') t) (sym n_long) grown)
        (subst (λ m. Links m (lefts rows) (rights rows)) (sym n_long) links)
        (sym e) reached i y);
    rest = rest;
  }

  longer_keys : keys longer (n + 1) ≡ keys rows n ++ k ∷ []
  longer_keys = held_more (λ w. w.key) rows n fresh long ∙ ap (λ x. keys rows n ++ x ∷ []) blank.0

  longer_rest : drop (n + 1) longer ≡ drop (n + 1) rows
  longer_rest = drop-set-lt (n + 1) rows n fresh (omega arith)

  pub hung_root : Err Root ≡ ends order n rows k → Hung order rows n k longer
  hung_root e =
      let empty : n ≡ 0 = free order rows n k long links Root e in
      post longer Root e
      (record {
        left_is = λ i h. absurd (omega arith);
        right_is = λ i h. absurd (omega arith);
        left_new = column_same (λ w. w.left.0) rows n fresh long ∙ blank.1;
        right_new = column_same (λ w. w.right.0) rows n fresh long ∙ blank.2;
        left_hung = λ i h. absurd (omega arith);
        right_hung = λ i h. absurd (omega arith);
      })
      longer_keys longer_rest

  module _ (p : ℕ) (d v : TreeRow K) (same_key : v.key ≡ (get_or longer p d).key) where
    abbrev pub edited : List (TreeRow K)
    edited = set longer p v

    edited_keys : keys edited (n + 1) ≡ keys rows n ++ k ∷ []
    edited_keys = held_kept (λ w. w.key) longer (n + 1) p d v same_key ∙ longer_keys

    edited_rest : p < n → drop (n + 1) edited ≡ drop (n + 1) rows
    edited_rest h = drop-set-lt (n + 1) longer p v (omega arith) ∙ longer_rest

    module _ (f : TreeRow K → ℕ) (none : f fresh ≡ 0) where
      -- a column that the edit kept
      kept_old : f v ≡ f (get_or longer p d) → (i : ℕ) → i < n → column f edited i ≡ column f rows i
      kept_old e i h = column_kept f longer p d v e i ∙ column_other f rows n i fresh (before i h)

      kept_new : f v ≡ f (get_or longer p d) → column f edited n ≡ 0
      kept_new e = column_kept f longer p d v e n ∙ column_same f rows n fresh long ∙ none

      -- a column in which the edit wrote the link
      module _ (free : (p < n) × (column f rows p ≡ 0)) (written : f v ≡ suc n) where
        here : column f edited p ≡ suc n
        here = column_same f longer p v (omega (arith, length-set rows n fresh, free.0)) ∙ written

        written_old : (i : ℕ) → i < n → (column f edited i ≡ column f rows i) ⊎ ((column f rows i ≡ 0) × (column f edited i ≡ suc n))
        written_old i h =
            ⊎_elim
            (λ (e : i ≡ p). inr (ap (column f rows) e ∙ free.1, ap (column f edited) e ∙ here))
            (λ (e : i ≡ p → ⊥). inl (column_other f longer p i v e ∙ column_other f rows n i fresh (before i h)))
            (cases_eq i p)

        written_new : column f edited n ≡ 0
        written_new = column_other f longer p n v (λ e. absurd (omega (arith, free.0))) ∙ column_same f rows n fresh long ∙ none

    pub hung_left : Err (Left p) ≡ ends order n rows k → v.left.0 ≡ suc n → v.right ≡ (get_or longer p d).right → Hung order rows n k edited
    hung_left e written same-right =
        let empty : (p < n) × (lefts rows p ≡ 0) = free order rows n k long links (Left p) e in
        post edited (Left p) e
        (record {
          left_is = written_old (λ w. w.left.0) blank.1 empty written;
          right_is = λ i h. inl (kept_old (λ w. w.right.0) blank.2 (ap (λ l. l.0) same-right) i h);
          left_new = written_new (λ w. w.left.0) blank.1 empty written;
          right_new = kept_new (λ w. w.right.0) blank.2 (ap (λ l. l.0) same-right);
          left_hung = λ i h t. let ip : i ≡ p = cc in ap (lefts edited) ip ∙ here (λ w. w.left.0) blank.1 empty written;
          right_hung = λ i h t. let z : ◌≡◌ {A = ℕ} 0 1 = cc in absurd (omega arith);
        })
        edited_keys (edited_rest empty.0)

    pub hung_right : Err (Right p) ≡ ends order n rows k → v.right.0 ≡ suc n → v.left ≡ (get_or longer p d).left → Hung order rows n k edited
    hung_right e written same_left =
        let empty : (p < n) × (rights rows p ≡ 0) = free order rows n k long links (Right p) e in
        post edited (Right p) e
        (record {
          left_is = λ i h. inl (kept_old (λ w. w.left.0) blank.1 (ap (λ l. l.0) same_left) i h);
          right_is = written_old (λ w. w.right.0) blank.2 empty written;
          left_new = kept_new (λ w. w.left.0) blank.1 (ap (λ l. l.0) same_left);
          right_new = written_new (λ w. w.right.0) blank.2 empty written;
          left_hung = λ i h t. let z : ◌≡◌ {A = ℕ} 0 1 = cc in absurd (omega arith);
          right_hung = λ i h t. let ip : i ≡ p = cc in ap (rights edited) ip ∙ here (λ w. w.right.0) blank.2 empty written;
        })
        edited_keys (edited_rest empty.0)
