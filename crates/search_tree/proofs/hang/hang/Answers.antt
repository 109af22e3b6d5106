use Rattle.std.proofs.Common.{◌<◌, length, Err, ap, sym, refl, ◌∙◌, arith, length-set, rules}
use Rattle.dictionary.specs.declared.rows.Slot.TheVariants.{Left, Right}
use Rattle.search_tree.proofs.Hung.{free, hung_root, hung_left, hung_right}
use Rattle.dictionary.specs.Orders.{itself}
use Rattle.search_tree.proofs.hang.hang.Goals as goal

in_left : (g : _) (c : goal.In-Left g) → c.in-Left.p < c.args.used
in_left g c = (free g.K.Key.order c.args.rows.now c.args.used c.args.k.now (omega arith) c.requires.links (Left c.in-Left.p) (ap Err (sym c.in-Left.is) ∙ c.requires.slot)).0

in_right : (g : _) (c : goal.In-Right g) → c.in-Right.p < c.args.used
in_right g c = (free g.K.Key.order c.args.rows.now c.args.used c.args.k.now (omega arith) c.requires.links (Right c.in-Right.p) (ap Err (sym c.in-Right.is) ∙ c.requires.slot)).0

pub offset_bounds-rows-p : goal.offset_bounds-rows-p
offset_bounds-rows-p g c = let h : c.in-Left.p < length c.args.rows.now = omega (arith, in_left g c) in search rules

pub bounds-rows-p : goal.bounds-rows-p
bounds-rows-p g c = let h : c.in-Left.p < c.args.used = in_left g c in simp length-set (omega arith)

pub bounds-rows-p-in-Left : goal.bounds-rows-p-in-Left
bounds-rows-p-in-Left g c = let h : c.in-Left.p < c.args.used = in_left g c in simp length-set (omega arith)

pub offset_bounds-rows-p-in-Right : goal.offset_bounds-rows-p-in-Right
offset_bounds-rows-p-in-Right g c = let h : c.in-Right.p < length c.args.rows.now = omega (arith, in_right g c) in search rules

pub bounds-rows-p-in-Right : goal.bounds-rows-p-in-Right
bounds-rows-p-in-Right g c = let h : c.in-Right.p < c.args.used = in_right g c in simp length-set (omega arith)

pub bounds-rows-p-in-Right-2 : goal.bounds-rows-p-in-Right-2
bounds-rows-p-in-Right-2 g c = let h : c.in-Right.p < c.args.used = in_right g c in simp length-set (omega arith)

pub returns-in-Left : goal.returns-in-Left
returns-in-Left g c =
    let post = hung_left g.K.Key.order c.args.rows.now c.args.used c.args.k.now (itself g.K.Key.order g.met.K.Key.total c.args.k.now) (omega arith) c.requires.links c.requires.ordered _ c.blank.ensures c.in-Left.p c.index-rows-p.result _ refl (ap Err (sym c.in-Left.is) ∙ c.requires.slot) c.of-link.ensures refl in
    record { links = post.linked; keys = post.held; ordered = post.ordered; rest = post.rest }

pub returns-in-Right : goal.returns-in-Right
returns-in-Right g c =
    let post = hung_right g.K.Key.order c.args.rows.now c.args.used c.args.k.now (itself g.K.Key.order g.met.K.Key.total c.args.k.now) (omega arith) c.requires.links c.requires.ordered _ c.blank.ensures c.in-Right.p c.index-rows-p-in-Right.result _ refl (ap Err (sym c.in-Right.is) ∙ c.requires.slot) c.of-link.ensures refl in
    record { links = post.linked; keys = post.held; ordered = post.ordered; rest = post.rest }

pub returns-in-Root : goal.returns-in-Root
returns-in-Root g c =
    let post = hung_root g.K.Key.order c.args.rows.now c.args.used c.args.k.now (itself g.K.Key.order g.met.K.Key.total c.args.k.now) (omega arith) c.requires.links c.requires.ordered _ c.blank.ensures (ap Err (sym c.in-Root.is) ∙ c.requires.slot) in
    record { links = post.linked; keys = post.held; ordered = post.ordered; rest = post.rest }
