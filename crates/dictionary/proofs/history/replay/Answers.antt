use Rattle.std.proofs.Common.{◌≡◌, ◌+◌, ◌≤◌, ◌<◌, ◌∷◌, length, get_or, take, drop, sym, ap, ◌∙◌, arith}
use Rattle.std.proofs.lemmas.List.{length-take, drop_more, get_or-take, set-get_or}
use Rattle.dictionary.proofs.Runs.{going_on, ran, ran_keeps}
use Rattle.dictionary.proofs.history.replay.Goals as goal

pub loop-i-preserved : goal.loop-i-preserved
loop-i-preserved g c =
    let n = length c.args.answers.now in
    let calls = c.args.calls.now in
    let i = c.loop-i.i in
    let inside : c.loop-i.i < length c.args.answers.now = omega arith in
    let there : c.loop-i.i < length (take n calls) = omega (arith, length-take n calls, c.in-Some.ensures.lookup.3.0) in
    let same : get_or c.args.calls.now c.loop-i.i c.in-Some.call.now ≡ c.in-Some.call.now = sym c.in-Some.ensures.lookup.1 in
    let next = drop_more (take n calls) i c.in-Some.call.now there ∙ ap (λ y. y ∷ drop (i + 1) (take n calls)) (get_or-take n calls i c.in-Some.call.now inside ∙ same) in
    going_on g.K.Key.order _ (take n calls) c.args.answers.now _ _ i c.loop-i.invariant _ c.carry_out.result (g.D.Dictionary.meaning c.carry_out.new.dictionary) next (omega (arith, c.loop-i.auto.answers)) c.carry_out.ensures

pub returns-after-loop-i : goal.returns-after-loop-i
returns-after-loop-i g c =
    let calls = take (length c.args.answers.now) c.args.calls.now in
    let all = ran g.K.Key.order _ calls c.args.answers.now _ _ c.loop-i.i c.loop-i.invariant (omega (arith, length-take (length c.args.answers.now) c.args.calls.now)) (omega (arith, c.loop-i.auto.answers)) in
    record { runs = all; keeps = ran_keeps g.K.Key.order _ calls _ _ _ all }

pub returns-in_default : goal.returns-in_default
returns-in_default g c =
    let calls = take (length c.args.answers.now) c.args.calls.now in
    let done : length c.args.calls.now ≤ c.loop-i.i = c.in_default.ensures.lookup.3 in
    let all = ran g.K.Key.order _ calls c.args.answers.now _ _ c.loop-i.i c.loop-i.invariant (omega (arith, length-take (length c.args.answers.now) c.args.calls.now)) (omega (arith, c.loop-i.auto.answers)) in
    record {
      runs = rw (set-get_or c.loop-i.answers c.loop-i.i c.index-answers-i.result) all;
      keeps = ran_keeps g.K.Key.order _ calls _ _ _ all;
    }
