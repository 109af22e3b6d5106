-- Growing, settling and quiet computations. Assumes nothing.
use Rattle.std.proofs.lemmas.Cmp.{tied_itself}
use Rattle.std.proofs.Common.{◌≡◌, ℕ, ◌+◌, length, Ok, Err, Result, Ordering, Equal, sym, refl, ap, ◌∙◌, subst, arith}
use Rattle.std.specs.Cmp.{nat_cmp_total}
use Rattle.dictionary.specs.Does.{out}
use Rattle.dictionary.specs.Meaning.{Meaning, asked, naming}
use Rattle.dictionary.specs.declared.refusals.Full.{Full}
use Rattle.scheme.specs.declared.composition.Composition.{Composition}
use Rattle.scheme.specs.declared.faults.BuildFault.{BuildFault}
use Rattle.scheme.specs.declared.faults.BuildFault.TheVariants.{Elements, Compositions}
use Rattle.scheme.specs.Compositions.{in_order}
use Rattle.scheme.specs.Building.{Both, both, Doing, and_then, follow, name_element, name_composition}
use Rattle.scheme.specs.Standing.{Grown, Kept}
use Rattle.signatures.specs.Laws.{Onward, Again, Same, Growing, Settling, Quiet}
use Rattle.signatures.proofs.Keeping.{same_longer, itself_kept, kept_on, kept_grown, kept_onward, grown_on, grown_onward, onward_on}
use Rattle.signatures.proofs.Namings.{old, new, refused, ways, name_longer, name_room, name_found, name_known, number_kept, name_alike}
use Rattle.signatures.proofs.Steps.{Closed}

-- ---- the two namings, by what the dictionary answers

module _ {E : Type 0} (order : E → E → Ordering) (position : ℕ) (x : E) (b : Both E) where
  pub element_ok : (n : ℕ) (m : Meaning E) → naming order x b.elements ≡ out (Ok n) m → name_element order position x b ≡ out (Ok n) (both m b.compositions)
  element_ok n m e = rw e

  pub element_err : (f : Full) (m : Meaning E) → naming order x b.elements ≡ out (Err f) m → name_element order position x b ≡ out (Err (Elements position f)) (both m b.compositions)
  element_err f m e = rw e

  pub element_said : (n : ℕ) → (name_element order position x b).answer ≡ Ok n → (naming order x b.elements).answer ≡ Ok n
  element_said n a =
      elim (ways order x b.elements) [
        | old i f e ↦ let q = ap (λ o. o.answer) (element_ok i _ e) in let s : i ≡ n = cc in ap (λ o. o.answer) e ∙ ap Ok s
        | new f l e ↦ let q = ap (λ o. o.answer) (element_ok _ _ e) in let s : length b.elements.keys + 1 ≡ n = cc in ap (λ o. o.answer) e ∙ ap Ok s
        | refused f l e ↦ let q = element_err _ _ e in let z : ◌≡◌ {A = ℕ} 0 1 = cc in absurd (omega arith)
      ]

module _ {E : Type 0} (round : ℕ) (c : Composition) (b : Both E) where
  pub composition_ok : (n : ℕ) (m : Meaning Composition) → naming in_order c b.compositions ≡ out (Ok n) m → name_composition round c b ≡ out (Ok n) (both b.elements m)
  composition_ok n m e = rw e

  pub composition_err : (f : Full) (m : Meaning Composition) → naming in_order c b.compositions ≡ out (Err f) m → name_composition round c b ≡ out (Err (Compositions round f)) (both b.elements m)
  composition_err f m e = rw e

  pub composition_said : (n : ℕ) → (name_composition round c b).answer ≡ Ok n → (naming in_order c b.compositions).answer ≡ Ok n
  composition_said n a =
      elim (ways in_order c b.compositions) [
        | old i f e ↦ let q = ap (λ o. o.answer) (composition_ok i _ e) in let s : i ≡ n = cc in ap (λ o. o.answer) e ∙ ap Ok s
        | new f l e ↦ let q = ap (λ o. o.answer) (composition_ok _ _ e) in let s : length b.compositions.keys + 1 ≡ n = cc in ap (λ o. o.answer) e ∙ ap Ok s
        | refused f l e ↦ let q = composition_err _ _ e in let z : ◌≡◌ {A = ℕ} 0 1 = cc in absurd (omega arith)
      ]

-- ---- growing

module _ {E : Type 0} where
  grow_after : {A B : Type 0} (g : A → Both E → Doing E B) → ((x : A) → Growing (g x)) → (b c : Both E) (a : Result A BuildFault) → Grown b c → Grown b (and_then a c g).after
  grow_after g pg b c (Ok x) h = grown_on b c (g x c).after h (pg x c)
  grow_after g pg b c (Err e) h = h

  pub element_grows : (order : E → E → Ordering) (position : ℕ) (x : E) → Growing (name_element order position x)
  element_grows order position x b = record {
    elements = name_longer order x b.elements;
    compositions = same_longer b.compositions.keys b.compositions.keys refl;
    element_room = name_room order x b.elements;
    composition_room = refl;
  }

  pub composition_grows : (round : ℕ) (c : Composition) → Growing {E = E} (name_composition round c)
  composition_grows round c b = record {
    elements = same_longer b.elements.keys b.elements.keys refl;
    compositions = name_longer in_order c b.compositions;
    element_room = refl;
    composition_room = name_room in_order c b.compositions;
  }

  pub growing : (order : E → E → Ordering) → Closed order (λ A f. Growing f)
  growing order = record {
    done = λ A x b. kept_grown b b (itself_kept b);
    after = λ A B f g pf pg b. grow_after g pg b (f b).after (f b).answer (pf b);
    element = element_grows order;
    composition = composition_grows;
  }

-- ---- settling

-- a composition is equal to itself
pub composition_itself : (c : Composition) → in_order c c ≡ Equal
composition_itself c = simp (tied_itself nat_cmp_total)

module _ {E : Type 0} where
  pub element_settles : (order : E → E → Ordering) → ((x : E) → order x x ≡ Equal) → (position : ℕ) (x : E) → Settling (name_element order position x)
  element_settles order self position x b c n a l =
      let found = name_found order x b.elements (self x) n (element_said order position x b n a) in
      let still = number_kept order x (naming order x b.elements).after.keys c.elements.keys n l.elements found in
      let says = element_ok order position x c n (asked c.elements) (name_known order x c.elements n still) in
      subst (λ (o : Doing E ℕ). Again o c n) (sym says) (record { answer = refl; kept = record { elements = refl; compositions = refl; element_room = refl; composition_room = refl } })

  pub composition_settles : (round : ℕ) (k : Composition) → Settling {E = E} (name_composition round k)
  composition_settles round k b c n a l =
      let found = name_found in_order k b.compositions (composition_itself k) n (composition_said round k b n a) in
      let still = number_kept in_order k (naming in_order k b.compositions).after.keys c.compositions.keys n l.compositions found in
      let says = composition_ok round k c n (asked c.compositions) (name_known in_order k c.compositions n still) in
      subst (λ (o : Doing E ℕ). Again o c n) (sym says) (record { answer = refl; kept = record { elements = refl; compositions = refl; element_room = refl; composition_room = refl } })

  pub record Settled {A : Type 0} (f : Both E → Doing E A) : Type 0 where
    pub grows : Growing f
    pub settles : Settling f

  module _ {A B : Type 0} (f : Both E → Doing E A) (g : A → Both E → Doing E B) (pf : Settled f) (pg : (x : A) → Settled (g x)) (b c : Both E) (y : B) where
    settle_after : (a : Result A BuildFault) → (f b).answer ≡ a → (and_then a (f b).after g).answer ≡ Ok y → Onward (and_then a (f b).after g).after c → Again (follow (f c) g) c y
    settle_after (Ok x) e h l =
        let d = (f b).after in
        let one = pf.settles b c x e (onward_on d (g x d).after c (grown_onward d (g x d).after ((pg x).grows d)) l) in
        let two = (pg x).settles d (f c).after y h (onward_on (g x d).after c (f c).after l (kept_onward c (f c).after one.kept)) in
        subst (λ a. Again (and_then a (f c).after g) c y) (sym one.answer) (record { answer = two.answer; kept = kept_on c (f c).after (g x (f c).after).after one.kept two.kept })
    settle_after (Err r) e h l = let z : ◌≡◌ {A = ℕ} 0 1 = cc in absurd (omega arith)

  pub settling : (order : E → E → Ordering) → ((x : E) → order x x ≡ Equal) → Closed order (λ A f. Settled f)
  settling order self = record {
    done = λ A x. record { grows = (growing order).done A x; settles = λ b c y a l. record { answer = a; kept = itself_kept c } };
    after = λ A B f g pf pg. record {
      grows = (growing order).after A B f g pf.grows (λ x. (pg x).grows);
      settles = λ b c y a l. settle_after f g pf pg b c y (f b).answer refl a l;
    };
    element = λ position x. record { grows = element_grows order position x; settles = element_settles order self position x };
    composition = λ round c. record { grows = composition_grows round c; settles = composition_settles round c };
  }

-- ---- quiet

module _ {E : Type 0} where
  pub element_quiet : (order : E → E → Ordering) (position : ℕ) (x : E) → Quiet (name_element order position x)
  element_quiet order position x b c k =
      let same = name_alike order x b.elements c.elements k.elements k.element_room in
      record {
        answer = rw same.answer;
        kept = record { elements = same.keys; compositions = k.compositions; element_room = same.room; composition_room = k.composition_room };
      }

  pub composition_quiet : (round : ℕ) (k : Composition) → Quiet {E = E} (name_composition round k)
  composition_quiet round k b c h =
      let same = name_alike in_order k b.compositions c.compositions h.compositions h.composition_room in
      record {
        answer = rw same.answer;
        kept = record { elements = h.elements; compositions = same.keys; element_room = h.element_room; composition_room = same.room };
      }

  quiet_after : {A B : Type 0} (g : A → Both E → Doing E B) → ((x : A) → Quiet (g x)) → (b c : Both E) (a : Result A BuildFault) → Kept b c → Same (and_then a b g) (and_then a c g)
  quiet_after g pg b c (Ok x) h = pg x b c h
  quiet_after g pg b c (Err e) h = record { answer = refl; kept = h }

  pub staying_quiet : (order : E → E → Ordering) → Closed order (λ A f. Quiet f)
  staying_quiet order = record {
    done = λ A x b c h. record { answer = refl; kept = h };
    after = λ A B f g pf pg b c h. let one = pf b c h in subst (λ a. Same (follow (f b) g) (and_then a (f c).after g)) one.answer (quiet_after g pg (f b).after (f c).after (f b).answer one.kept);
    element = element_quiet order;
    composition = composition_quiet;
  }
