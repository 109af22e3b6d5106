-- Records: equal where their fields are, compared, and put together from what four fields say.
use Rattle.std.specs.Prelude.{◌≡◌, ℕ, Bool, ◌&&◌, List, length, Some, None, Decides, Option, refl, nat_eq, ◌==◌}
use Rattle.std.proofs.Common.{sym, ap, ◌∙◌, arith}
use mathlib.Core.HLevel.{is_prop→PathP}
use denote.Struct.Props.{props}
use Rattle.std.specs.Option.{option_map}
use Rattle.std.proofs.lemmas.Bool.Decides.{Decides-and, Decides-like}
use Rattle.std.specs.Cmp.{IsPartialEquivalence, decided, partial_equiv_from_equiv, unsigned_Decides}
use Rattle.std.specs.Cmp.Lexicographic.{pointwise, pointwise_decides}
use Rattle.lines.specs.declared.kind.Kind.{Kind}
use Rattle.lines.specs.declared.kind.Kind.TheVariants.{Dipole, Quadrupole, Sextupole, Steerer}
use Rattle.lines.specs.Kinds.{letter_of, kind_of}
use Rattle.lines.specs.declared.record.Record.{Record}
use Rattle.lines.specs.Layout.{given, filled, to_record}

pub same_record : (x y : Record) → x.circuit ≡ y.circuit → x.kind ≡ y.kind → x.limit ≡ y.limit → x.chain ≡ y.chain → x ≡ y
same_record x y p q r s = λ i. record {
  circuit = p i;
  kind = q i;
  limit = r i;
  chain = s i;
  twelve = is_prop→PathP (λ j. length (p j) ≡ 12) (λ j. hlevel props) x.twelve y.twelve i;
}

pub gathered : (o : Option (List ℕ)) (p : Option Kind) (q s : Option ℕ) (r : Record) → Some r.circuit ≡ option_map filled o → Some r.kind ≡ p → Some r.limit ≡ q → Some r.chain ≡ s
    → Some r ≡ given o (λ bs. given p (λ k. given q (λ n. given s (λ m. Some (to_record bs k n m)))))
gathered None p q s r a b c d = let z : ◌≡◌ {A = ℕ} 0 1 = cc in absurd (omega arith)
gathered (Some bs) p q s r a b c d =
    let e : r.circuit ≡ filled bs = cc in
    rw (← b, ← c, ← d) (ap Some (same_record r (to_record bs r.kind r.limit r.chain) e refl refl refl))

pub same_decides : (x y : Record) (a b c d : Bool) → Decides a (x.circuit ≡ y.circuit) → Decides b (x.kind ≡ y.kind) → Decides c (x.limit ≡ y.limit) → Decides d (x.chain ≡ y.chain)
    → Decides (a && (b && (c && d))) (x ≡ y)
same_decides x y a b c d p q r s =
    Decides-like
    (a && (b && (c && d)))
    (λ h. same_record x y h.0 h.1.0 h.1.1.0 h.1.1.1)
    (λ e. (ap (λ z. z.circuit) e, (ap (λ z. z.kind) e, (ap (λ z. z.limit) e, ap (λ z. z.chain) e))))
    (Decides-and a (b && (c && d)) p (Decides-and b (c && d) q (Decides-and c d r s)))

-- ---- equality, field by field

kind_back : (k : Kind) → kind_of (letter_of k) ≡ Some k
kind_back Dipole = refl
kind_back Quadrupole = refl
kind_back Sextupole = refl
kind_back Steerer = refl

pub same_kind : (k l : Kind) → letter_of k ≡ letter_of l → k ≡ l
same_kind k l e = let p = sym (kind_back k) ∙ ap kind_of e ∙ kind_back l in cc p

pub letters_decide : (k l : Kind) → Decides (letter_of k == letter_of l) (k ≡ l)
letters_decide k l = Decides-like (letter_of k == letter_of l) (same_kind k l) (ap letter_of) (unsigned_Decides (letter_of k) (letter_of l))

abbrev pub same_fields : Record → Record → Bool
same_fields x y = pointwise nat_eq x.circuit y.circuit && (letter_of x.kind == letter_of y.kind && (x.limit == y.limit && x.chain == y.chain))

pub same_fields_decides : (x y : Record) → Decides (same_fields x y) (x ≡ y)
same_fields_decides x y =
    same_decides x y _ _ _ _
    (pointwise_decides unsigned_Decides x.circuit y.circuit)
    (letters_decide x.kind y.kind)
    (unsigned_Decides x.limit y.limit)
    (unsigned_Decides x.chain y.chain)

pub same_fields_laws : IsPartialEquivalence same_fields
same_fields_laws = partial_equiv_from_equiv (decided same_fields same_fields_decides)
