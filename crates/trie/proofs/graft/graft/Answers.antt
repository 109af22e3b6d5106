use Rattle.std.proofs.Common.{◌+◌, ◌<◌, length, refl, arith, rules}
use Rattle.trie.proofs.Grafted.{left_at, right_at, at_root, at_left, at_right}
use Rattle.trie.proofs.graft.graft.Goals as goal

pub returns-in-Root : goal.returns-in-Root
returns-in-Root g c = let r = at_root _ _ _ c.fork.ensures c.requires.room c.requires.linked c.requires.rooted c.requires.sound c.requires.parts c.requires.hooked c.in-Root.is (c.args.used + 4294967296) (omega arith) in record { linked = r.linked; rooted = r.rooted; held = r.held; sound = r.sound; rest = r.rest }

pub returns-in-Left : goal.returns-in-Left
returns-in-Left g c = let r = at_left _ _ _ c.fork.ensures c.requires.room c.requires.linked c.requires.rooted c.requires.sound c.requires.parts c.requires.hooked _ c.in-Left.is c.index-rows-p.result _ refl refl refl (omega arith) in record { linked = r.linked; rooted = r.rooted; held = r.held; sound = r.sound; rest = r.rest }

pub returns-in-Right : goal.returns-in-Right
returns-in-Right g c = let r = at_right _ _ _ c.fork.ensures c.requires.room c.requires.linked c.requires.rooted c.requires.sound c.requires.parts c.requires.hooked _ c.in-Right.is c.index-rows-p-in-Right.result _ refl refl refl (omega arith) in record { linked = r.linked; rooted = r.rooted; held = r.held; sound = r.sound; rest = r.rest }

pub offset_bounds-rows-p : goal.offset_bounds-rows-p
offset_bounds-rows-p g c = let below : c.in-Left.p < length c.args.rows.now = omega (arith, c.requires.room, (left_at _ _ _ c.fork.ensures c.requires.room c.requires.linked c.requires.rooted c.requires.sound c.requires.parts c.requires.hooked c.in-Left.p c.in-Left.is).1) in search rules

pub offset_bounds-rows-p-in-Right : goal.offset_bounds-rows-p-in-Right
offset_bounds-rows-p-in-Right g c = let below : c.in-Right.p < length c.args.rows.now = omega (arith, c.requires.room, (right_at _ _ _ c.fork.ensures c.requires.room c.requires.linked c.requires.rooted c.requires.sound c.requires.parts c.requires.hooked c.in-Right.p c.in-Right.is).1) in search rules

pub offset_bounds-rows-used : goal.offset_bounds-rows-used
offset_bounds-rows-used g c = let below : c.args.used < length c.args.rows.now = omega (arith, c.requires.room) in search rules
