-- A row that keeps a front F of one row, X = F ++ X', and an end E of another, Y = Y' ++ E, around a middle M. Assumes nothing.
--     Kept F M E before after      the row F ++ (M ++ E) begins with the blocks `before` and ends with the blocks `after`; only the blocks `new` between them are its own
--     SpliceKeeps        the blocks of X that end more than 4 names before the end of F are kept, and so are the blocks of Y that begin at least 8 names after the beginning of E.
--                        None is kept where `before` or `after` is empty, so F, M, E, X' and Y' may be empty too
--     Reach part kept    the blocks kept of a part reach near enough to the middle
--     ReachFront, ReachEnd       in a lawful row there are blocks of a front, and of an end, that do
--     SpliceFew          then the new blocks have at most 24 names more than the middle, and in a lawful row of two names or more there are at most half as many blocks as that
--     SpliceBounded      so the blocks of a row that keeps a front of one lawful row and an end of another are those rows' blocks, but for those of at most 24 names more than the middle
use Rattle.std.specs.Prelude.{◌≡◌, ℕ, ◌+◌, ◌-◌, ◌*◌, ◌<◌, ◌≤◌, ◌⊎◌, List, [], ◌++◌, length, take, drop}
use Rattle.cutting.specs.Rows.{cuts, Lawful}
use Rattle.cutting.specs.Blocks.{parted, blocks, flat}

pub record Kept (F M E : List ℕ) (before after : List (List ℕ)) : Type 0 where
  pub new : List (List ℕ)
  pub all : blocks (F ++ (M ++ E)) ≡ before ++ (new ++ after)
  -- the new blocks are cut by the new row's own cuts, and these are their names
  pub cut : new ≡ parted (cuts (F ++ (M ++ E))) (length (flat before)) (flat new)
  pub names : flat new ≡ drop (length (flat before)) F ++ (M ++ take (length E - length (flat after)) E)

abbrev pub FarFromEnd : List ℕ → List (List ℕ) → Type 0
FarFromEnd F before = (before ≡ []) ⊎ (length (flat before) + 4 < length F)

abbrev pub FarFromFront : List ℕ → List (List ℕ) → Type 0
FarFromFront E after = (after ≡ []) ⊎ (length (flat after) + 8 ≤ length E)

abbrev pub SpliceKeeps : Type 0
SpliceKeeps =
    (X F X' M Y Y' E : List ℕ) (before lost gone after : List (List ℕ)) → X ≡ F ++ X' → Y ≡ Y' ++ E → blocks X ≡ before ++ lost → blocks Y ≡ gone ++ after
    → FarFromEnd F before → FarFromFront E after → Kept F M E before after

-- from the last of the kept blocks to the middle it is 8 to 12 names; or none is kept, and the whole part has at most 12 names
abbrev pub Reach : List ℕ → List (List ℕ) → Type 0
Reach part kept = ((kept ≡ []) ⊎ (length (flat kept) + 8 ≤ length part)) × (length part ≤ length (flat kept) + 12)

abbrev pub ReachFront : Type 0
ReachFront = (X F X' : List ℕ) → X ≡ F ++ X' → Lawful X → (before : List (List ℕ)) × (lost : List (List ℕ)) × (blocks X ≡ before ++ lost) × Reach F before

abbrev pub ReachEnd : Type 0
ReachEnd = (Y Y' E : List ℕ) → Y ≡ Y' ++ E → Lawful Y → (gone : List (List ℕ)) × (after : List (List ℕ)) × (blocks Y ≡ gone ++ after) × Reach E after

abbrev pub SpliceFew : Type 0
SpliceFew =
    (F M E : List ℕ) (before after : List (List ℕ)) → Reach F before → Reach E after → (k : Kept F M E before after)
    → (length (flat k.new) ≤ length M + 24) × (2 ≤ length (F ++ (M ++ E)) → Lawful (F ++ (M ++ E)) → 2 * length k.new ≤ length M + 24)

pub record Bounded (X Y F M E : List ℕ) : Type 0 where
  pub before : List (List ℕ)
  pub lost : List (List ℕ)
  pub gone : List (List ℕ)
  pub after : List (List ℕ)
  pub front : blocks X ≡ before ++ lost
  pub end : blocks Y ≡ gone ++ after
  pub kept : Kept F M E before after
  pub few : length (flat kept.new) ≤ length M + 24

abbrev pub SpliceBounded : Type 0
SpliceBounded = (X F X' M Y Y' E : List ℕ) → X ≡ F ++ X' → Y ≡ Y' ++ E → Lawful X → Lawful Y → Bounded X Y F M E
