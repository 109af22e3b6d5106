-- Dictionaries before and after: growth and keeping, one after the other. Assumes nothing.
use Rattle.std.proofs.Common.{◌≡◌, List, [], ◌++◌, sym, refl, ap, ◌∙◌}
use Rattle.std.proofs.lemmas.List.{append-nil, append_assoc}
use Rattle.scheme.specs.Building.{Both}
use Rattle.scheme.specs.Standing.{Longer, Grown, Kept}
use Rattle.signatures.specs.Laws.{Onward}

pub same_longer : {K : Type 0} (ks ks' : List K) → ks' ≡ ks → Longer ks ks'
same_longer ks ks' e = ([], e ∙ sym (append-nil ks))

pub longer_on : {K : Type 0} (ks ks' ks'' : List K) → Longer ks ks' → Longer ks' ks'' → Longer ks ks''
longer_on ks ks' ks'' l m = (l.0 ++ m.0, m.1 ∙ ap (λ xs. xs ++ m.0) l.1 ∙ append_assoc ks l.0 m.0)

module _ {E : Type 0} where
  pub itself_kept : (b : Both E) → Kept b b
  itself_kept b = record { elements = refl; compositions = refl; element_room = refl; composition_room = refl }

  pub kept_back : (b c : Both E) → Kept b c → Kept c b
  kept_back b c k = record { elements = sym k.elements; compositions = sym k.compositions; element_room = sym k.element_room; composition_room = sym k.composition_room }

  pub kept_on : (b c d : Both E) → Kept b c → Kept c d → Kept b d
  kept_on b c d k l = record {
    elements = l.elements ∙ k.elements;
    compositions = l.compositions ∙ k.compositions;
    element_room = l.element_room ∙ k.element_room;
    composition_room = l.composition_room ∙ k.composition_room;
  }

  pub kept_grown : (b c : Both E) → Kept b c → Grown b c
  kept_grown b c k = record {
    elements = same_longer b.elements.keys c.elements.keys k.elements;
    compositions = same_longer b.compositions.keys c.compositions.keys k.compositions;
    element_room = k.element_room;
    composition_room = k.composition_room;
  }

  pub grown_on : (b c d : Both E) → Grown b c → Grown c d → Grown b d
  grown_on b c d g h = record {
    elements = longer_on b.elements.keys c.elements.keys d.elements.keys g.elements h.elements;
    compositions = longer_on b.compositions.keys c.compositions.keys d.compositions.keys g.compositions h.compositions;
    element_room = h.element_room ∙ g.element_room;
    composition_room = h.composition_room ∙ g.composition_room;
  }

  pub grown_onward : (b c : Both E) → Grown b c → Onward b c
  grown_onward b c g = record { elements = g.elements; compositions = g.compositions }

  pub kept_onward : (b c : Both E) → Kept b c → Onward b c
  kept_onward b c k = grown_onward b c (kept_grown b c k)

  pub onward_on : (b c d : Both E) → Onward b c → Onward c d → Onward b d
  onward_on b c d g h = record {
    elements = longer_on b.elements.keys c.elements.keys d.elements.keys g.elements h.elements;
    compositions = longer_on b.compositions.keys c.compositions.keys d.compositions.keys g.compositions h.compositions;
  }
