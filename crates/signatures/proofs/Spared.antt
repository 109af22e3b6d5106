-- Computations over dictionaries that take no key more: they name nothing, and ask no more than over dictionaries that may grow. Assumes nothing.
use Rattle.std.proofs.Common.{◌≡◌, ℕ, ◌≤◌, [], length, Ok, Err, Result, Ordering, Equal, sym, refl, ap, ◌∙◌, subst, arith}
use Rattle.std.proofs.lemmas.List.{append-nil}
use Rattle.dictionary.specs.Meaning.{more, naming}
use Rattle.scheme.specs.declared.composition.Composition.{Composition}
use Rattle.scheme.specs.declared.faults.BuildFault.{BuildFault}
use Rattle.scheme.specs.Compositions.{in_order}
use Rattle.scheme.specs.Building.{Both, Doing, and_then, follow, name_element, name_composition}
use Rattle.scheme.specs.Standing.{Kept, frozen}
use Rattle.signatures.specs.Laws.{Fewer, Counted, Frugal}
use Rattle.signatures.proofs.Keeping.{itself_kept, kept_on}
use Rattle.signatures.proofs.Namings.{name_full, name_asks}
use Rattle.signatures.proofs.Settled.{Settled, settling}
use Rattle.signatures.proofs.Steps.{Closed}

more_fewer : (a b c d : ℕ) → a ≡ more c → b ≡ more d → c ≤ d → a ≤ b
more_fewer a b c d e f h = omega arith

more_up : (a b : ℕ) → b ≡ more a → a ≤ 18446744073709551615 → (a ≤ b) × (b ≤ 18446744073709551615)
more_up a b e h = omega arith

module _ {E : Type 0} where
  -- there is no room
  pub record Packed (b : Both E) : Type 0 where
    pub elements : b.elements.capacity ≤ length b.elements.keys
    pub compositions : b.compositions.capacity ≤ length b.compositions.keys

  pub frozen_packed : (b : Both E) → Packed (frozen b)
  frozen_packed b = record { elements = omega arith; compositions = omega arith }

  packed_kept : (b c : Both E) → Kept b c → Packed b → Packed c
  packed_kept b c k h = record {
    elements = (let r = ap length k.elements in let q = k.element_room in let p = h.elements in omega arith);
    compositions = (let r = ap length k.compositions in let q = k.composition_room in let p = h.compositions in omega arith);
  }

  itself_fewer : (b : Both E) → Fewer b b
  itself_fewer b = record { elements = omega arith; compositions = omega arith }

  fewer_on : (b c d : Both E) → Fewer b c → Fewer c d → Fewer b d
  fewer_on b c d p q = record {
    elements = (let h = p.elements in let k = q.elements in omega arith);
    compositions = (let h = p.compositions in let k = q.compositions in omega arith);
  }

  -- nothing is named
  abbrev pub Still : {A : Type 0} → (Both E → Doing E A) → Type 0
  Still f = (b : Both E) → Packed b → Kept b (f b).after

  -- the counts only rise, up to their limit
  pub record Up (b c : Both E) : Type 0 where
    pub fewer : Fewer b c
    pub counted : Counted c

  abbrev pub Counting : {A : Type 0} → (Both E → Doing E A) → Type 0
  Counting f = (b : Both E) → Counted b → Up b (f b).after

  -- c has the keys of b, no room, and not been asked more often
  pub record Leaner (c b : Both E) : Type 0 where
    pub elements : b.elements.keys ≡ c.elements.keys
    pub compositions : b.compositions.keys ≡ c.compositions.keys
    pub packed : Packed c
    pub fewer : Fewer c b

  abbrev pub Lean : {A : Type 0} → (Both E → Doing E A) → Type 0
  Lean f = (b c : Both E) → Counted b → Leaner c b → Fewer (f c).after (f b).after

  pub record Spared {A : Type 0} (f : Both E → Doing E A) : Type 0 where
    pub settled : Settled f
    pub still : Still f
    pub counting : Counting f
    pub lean : Lean f

  -- ---- the namings

  module _ (order : E → E → Ordering) (position : ℕ) (x : E) where
    element_still : Still (name_element order position x)
    element_still b h =
        let e = name_full order x b.elements h.elements in
        record { elements = ap (λ m. m.keys) e; compositions = refl; element_room = ap (λ m. m.capacity) e; composition_room = refl }

    element_counting : Counting (name_element order position x)
    element_counting b h =
        let u = more_up b.elements.asks (naming order x b.elements).after.asks (name_asks order x b.elements) h.elements in
        record { fewer = record { elements = u.0; compositions = omega arith }; counted = record { elements = u.1; compositions = h.compositions } }

    element_lean : Lean (name_element order position x)
    element_lean b c n l = record {
      elements = more_fewer _ _ c.elements.asks b.elements.asks (name_asks order x c.elements) (name_asks order x b.elements) l.fewer.elements;
      compositions = l.fewer.compositions;
    }

  module _ (round : ℕ) (k : Composition) where
    composition_still : Still (name_composition round k)
    composition_still b h =
        let e = name_full in_order k b.compositions h.compositions in
        record { elements = refl; compositions = ap (λ m. m.keys) e; element_room = refl; composition_room = ap (λ m. m.capacity) e }

    composition_counting : Counting (name_composition round k)
    composition_counting b h =
        let u = more_up b.compositions.asks (naming in_order k b.compositions).after.asks (name_asks in_order k b.compositions) h.compositions in
        record { fewer = record { elements = omega arith; compositions = u.0 }; counted = record { elements = h.elements; compositions = u.1 } }

    composition_lean : Lean (name_composition round k)
    composition_lean b c n l = record {
      elements = l.fewer.elements;
      compositions = more_fewer _ _ c.compositions.asks b.compositions.asks (name_asks in_order k c.compositions) (name_asks in_order k b.compositions) l.fewer.compositions;
    }

  -- ---- one step after another

  still_after : {A B : Type 0} (g : A → Both E → Doing E B) → ((x : A) → Still (g x)) → (b c : Both E) (a : Result A BuildFault) → Packed b → Kept b c → Kept b (and_then a c g).after
  still_after g pg b c (Ok x) h k = kept_on b c (g x c).after k (pg x c (packed_kept b c k h))
  still_after g pg b c (Err e) h k = k

  counting_after : {A B : Type 0} (g : A → Both E → Doing E B) → ((x : A) → Counting (g x)) → (b c : Both E) (a : Result A BuildFault) → Up b c → Up b (and_then a c g).after
  counting_after g pg b c (Ok x) u = let v = pg x c u.counted in record { fewer = fewer_on b c (g x c).after u.fewer v.fewer; counted = v.counted }
  counting_after g pg b c (Err e) u = u

  module _ {A B : Type 0} (f : Both E → Doing E A) (g : A → Both E → Doing E B) (pf : Spared f) (pg : (x : A) → Spared (g x)) (b c : Both E) (n : Counted b) (l : Leaner c b) where
    lean_after : (a : Result A BuildFault) → (f c).answer ≡ a → Fewer (and_then a (f c).after g).after (follow (f b) g).after
    lean_after (Ok x) e =
        let kept = pf.still c l.packed in
        let keys : Kept c (f c).after = kept in
        let again = pf.settled.settles c b x e (record { elements = ([], l.elements ∙ sym keys.elements ∙ sym (append-nil _)); compositions = ([], l.compositions ∙ sym keys.compositions ∙ sym (append-nil _)) }) in
        let after : Leaner (f c).after (f b).after = record {
          elements = again.kept.elements ∙ l.elements ∙ sym keys.elements;
          compositions = again.kept.compositions ∙ l.compositions ∙ sym keys.compositions;
          packed = packed_kept c (f c).after keys l.packed;
          fewer = pf.lean b c n l;
        } in
        subst (λ a. Fewer (g x (f c).after).after (and_then a (f b).after g).after) (sym again.answer) ((pg x).lean (f b).after (f c).after (pf.counting b n).counted after)
    lean_after (Err r) e =
        let d = (f b).after in
        let u = pf.counting b n in
        let v = counting_after g (λ x. (pg x).counting) d d (f b).answer (record { fewer = itself_fewer d; counted = u.counted }) in
        fewer_on (f c).after d (follow (f b) g).after (pf.lean b c n l) v.fewer

  pub sparing : (order : E → E → Ordering) → ((x : E) → order x x ≡ Equal) → Closed order (λ A f. Spared f)
  sparing order self = record {
    done = λ A x. record {
      settled = (settling order self).done A x;
      still = λ b h. itself_kept b;
      counting = λ b h. record { fewer = itself_fewer b; counted = h };
      lean = λ b c n l. l.fewer;
    };
    after = λ A B f g pf pg. record {
      settled = (settling order self).after A B f g pf.settled (λ x. (pg x).settled);
      still = λ b h. still_after g (λ x. (pg x).still) b (f b).after (f b).answer h (pf.still b h);
      counting = λ b h. counting_after g (λ x. (pg x).counting) b (f b).after (f b).answer (pf.counting b h);
      lean = λ b c n l. lean_after f g pf pg b c n l (f c).answer refl;
    };
    element = λ position x. record { settled = (settling order self).element position x; still = element_still order position x; counting = element_counting order position x; lean = element_lean order position x };
    composition = λ round k. record { settled = (settling order self).composition round k; still = composition_still round k; counting = composition_counting round k; lean = composition_lean round k };
  }

  pub frugal : {A : Type 0} (f : Both E → Doing E A) → Spared f → Frugal f
  frugal f p b n = record {
    kept = p.still (frozen b) (frozen_packed b);
    fewer = p.lean b (frozen b) n (record { elements = refl; compositions = refl; packed = frozen_packed b; fewer = record { elements = omega arith; compositions = omega arith } });
  }
