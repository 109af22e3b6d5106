-- Lists of dictionary calls: the calls that are left give the rest of the answers. Assumes nothing.
use Rattle.std.proofs.Common.{◌≡◌, ℕ, zero, suc, ◌+◌, ◌<◌, ◌≤◌, true, false, cond, ltb, List, [], ◌∷◌, ◌++◌, length, take, drop, set, Some, None, Ok, Err, Result, Ordering, sym, ap, ◌∙◌, subst, arith}
use Rattle.std.specs.List.{slice_get}
use Rattle.std.proofs.lemmas.List.{append-nil, append_assoc, take-append-drop, length-take-le, drop_all, drop-set-lt, drop-drop, take_more_set}
use Rattle.dictionary.specs.Does.{Out, out, Did}
use Rattle.dictionary.specs.Histories.{calling, answers, after, Ran, Keeps}
use Rattle.dictionary.specs.Meaning.{Meaning, meaning, full, key_of, number_of, name_at, asked, naming}
use Rattle.dictionary.specs.declared.refusals.Full.{Full}
use Rattle.dictionary.specs.declared.calls.Answer.{Answer}
use Rattle.dictionary.specs.declared.calls.Call.{Call}
use Rattle.dictionary.specs.declared.calls.Call.TheVariants.{Size, Capacity, Asks, Find, Name, Key}

module _ {K : Type 0} (order : K → K → Ordering) where
  module _ (m₀ : Meaning K) (cs : List (Call K)) (room : List (Answer K)) where
    -- the calls below i are done: m is the meaning then, and `now` has their answers
    pub record Going (m : Meaning K) (now : List (Answer K)) (i : ℕ) : Type 0 where
      pub left : after order m (drop i cs) ≡ after order m₀ cs
      pub answered : take i now ++ answers order m (drop i cs) ≡ answers order m₀ cs
      pub rest : drop i now ≡ drop i room

    module _ (m : Meaning K) (now : List (Answer K)) (i : ℕ) (g : Going m now i) where
      pub ran : length cs ≤ i → i ≤ length now → Ran order m₀ cs room now m
      ran h within =
          let none : drop i cs ≡ [] = drop_all i cs h in
          let all : take i now ≡ answers order m₀ cs = sym (append-nil (take i now)) ∙ ap (λ ds. take i now ++ answers order m ds) (sym none) ∙ g.answered in
          let size : i ≡ length (answers order m₀ cs) = sym (length-take-le i now within) ∙ ap length all in
          record {
            answered = sym (take-append-drop i now) ∙ ap (λ ys. ys ++ drop i now) all ∙ ap (λ ys. answers order m₀ cs ++ ys) (g.rest ∙ ap (λ n. drop n room) size);
            left = ap (after order m) (sym none) ∙ g.left;
          }

      pub going_on : (c : Call K) (r : Answer K) (m' : Meaning K) → drop i cs ≡ c ∷ drop (i + 1) cs → i < length now → Did (calling order c m) r m' → Going m' (set now i r) (i + 1)
      going_on c r m' next h did = record {
        left = ap (λ v. after order v (drop (i + 1) cs)) did.after ∙ ap (after order m) (sym next) ∙ g.left;
        answered =
            ap (λ ys. ys ++ answers order m' (drop (i + 1) cs)) (take_more_set now i r h)
            ∙ append_assoc (take i now) (r ∷ []) _
            ∙ ap (λ v. take i now ++ r ∷ answers order v (drop (i + 1) cs)) did.after
            ∙ ap (λ v. take i now ++ v ∷ answers order (calling order c m).after (drop (i + 1) cs)) did.answer
            ∙ ap (λ ds. take i now ++ answers order m ds) (sym next)
            ∙ g.answered;
        rest = drop-set-lt (i + 1) now i r (omega arith) ∙ sym (drop-drop 1 i now) ∙ ap (drop 1) g.rest ∙ drop-drop 1 i room;
      }

  -- key n is still key n
  nth_append : (xs ys : List K) (i : ℕ) (k : K) → slice_get xs i ≡ Some k → slice_get (xs ++ ys) i ≡ Some k
  nth_append [] ys i k e = let z : ◌≡◌ {A = ℕ} 0 1 = cc in absurd (omega arith)
  nth_append (x ∷ xs) ys zero k e = e
  nth_append (x ∷ xs) ys (suc i) k e = nth_append xs ys i k e

  key_append : (xs ys : List K) (n : ℕ) (k : K) → key_of xs n ≡ Some k → key_of (xs ++ ys) n ≡ Some k
  key_append xs ys zero k e = e
  key_append xs ys (suc i) k e = nth_append xs ys i k e

  name_keeps : (k : K) (m : Meaning K) → Keeps m (naming order k m).after
  name_keeps k m n y e =
      elim (number_of order m.keys k) as (λ o. key_of (name_at order o k (asked m)).after.keys n ≡ Some y) [
        | Some j ↦ e
        | None ↦ elim (ltb (length m.keys) m.capacity) as (λ t. let o : Out (Result ℕ Full) (Meaning K) = cond t (out (Ok (length m.keys + 1)) (meaning (m.keys ++ k ∷ []) m.capacity (asked m).asks)) (out (Err (full (length m.keys))) (asked m)) in key_of o.after.keys n ≡ Some y) [ true ↦ key_append m.keys (k ∷ []) n y e | false ↦ e ]
      ]

  call_keeps : (c : Call K) (m : Meaning K) → Keeps m (calling order c m).after
  call_keeps Size m n k e = e
  call_keeps Capacity m n k e = e
  call_keeps Asks m n k e = e
  call_keeps (Find y) m n k e = e
  call_keeps (Name y) m n k e = name_keeps y m n k e
  call_keeps (Key j) m n k e = e

  pub run_keeps : (m : Meaning K) (cs : List (Call K)) → Keeps m (after order m cs)
  run_keeps m [] n k e = e
  run_keeps m (c ∷ cs) n k e = run_keeps (calling order c m).after cs n k (call_keeps c m n k e)

  pub ran_keeps : (m : Meaning K) (cs : List (Call K)) (room room' : List (Answer K)) (m' : Meaning K) → Ran order m cs room room' m' → Keeps m m'
  ran_keeps m cs room room' m' ran = subst (Keeps m) (sym ran.left) (run_keeps m cs)
