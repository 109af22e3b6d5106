-- Equality of records, as it is derived.
use Rattle.std.proofs.Common.{◌≡◌, ◌==◌, Decides, sym, subst, rules}
use denote.Enum.Bare.{sameb, same_true, true_same}
use Rattle.std.specs.Bool.{one_answer}
use Rattle.lines.specs.declared.kind.Kind.{Kind}
use Rattle.lines.specs.declared.record.Record.{Record}
use Rattle.lines.specs.Kinds.{letter_of}
use Rattle.lines.specs.contracts.kind.Kind.{the_type}
use Rattle.lines.specs.contracts.record.RecordPartialEq.TheImpl.{ghosts}
use Rattle.lines.specs.Records.{letters_decide, same_fields, same_fields_decides}

-- that of kinds is that of their letters
pub same_letters : (k l : Kind) → sameb the_type k l ≡ (letter_of k == letter_of l)
same_letters k l = one_answer (sameb the_type k l) (letter_of k == letter_of l) (same_true the_type tt k l, true_same the_type k l) (letters_decide k l)

pub equal_answers : (x y : Record) → ghosts.eq x y ≡ same_fields x y
equal_answers x y = search rules

-- that of records answers true exactly for equal records
pub equal_decides : (x y : Record) → Decides (ghosts.eq x y) (x ≡ y)
equal_decides x y = subst (λ b. Decides b (x ≡ y)) (sym (equal_answers x y)) (same_fields_decides x y)
