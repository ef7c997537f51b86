-- The example of the definitions' comments, computed: a makes `/a` with the serial 1, and b makes `/a/f` with the serial 2.
-- They meet in the node of `/a`. Here c makes `/c` with the serial 3, and meets neither.
use Rattle.std.proofs.Common.{◌≡◌, ℕ, ◌+◌, ◌-◌, ◌≤◌, ◌<◌, List, [], ◌∷◌, ◌++◌, refl, ap, arith, ◌∙◌, ltb}
use Rattle.std.specs.Prelude.{Bool, true, false, ◌||◌}
use Rattle.std.specs.FinMap.{len}
use Rattle.std.proofs.lemmas.Bool.{lt-ltb, le-ltb}
use Rattle.stream_cuts.specs.Streams.{Enter, Seal, entered, unsealed_after}
use Rattle.stream_cuts.specs.Forced.{entering}
use Rattle.stream_cuts.specs.Cuts.{kept, seals, cut_at}
use Rattle.tree_model.specs.declared.rows.Update.{Update}
use Rattle.tree_model.specs.declared.rows.Update.TheVariants.{Make}
use Rattle.tree_model.specs.Rows.{Rows}
use Rattle.tree_model.specs.Updates.{apply}
use Rattle.tree_model.specs.Keys.{meets}
use Rattle.tree_model.specs.Weights.{weight, live}
use Rattle.tree_cuts.specs.Calls.{Sizes, Charge, Charged, charged_meets, Call, Accepted, SyncStream, SyncFile, SyncAll, Other, charge, seals_own, call_steps, steps_from, plain, steps}
use Rattle.tree_cuts.specs.Runs.{seals_of, kept_at}

abbrev a : Update
a = Make 0 (97 ∷ []) 1 true

abbrev b : Update
b = Make 1 (102 ∷ []) 2 false

abbrev c : Update
c = Make 0 (99 ∷ []) 3 true

a_meets_b : meets a b ≡ true
a_meets_b = refl

c_meets_neither : (meets c a || meets c b) ≡ false
c_meets_neither = refl

-- an update with what it weighs, and the blocks and rows that it gives up
abbrev charged : Update → ℕ → ℕ → ℕ → Charged
charged u weight blocks rows = (u, record { weight = weight; gave_blocks = blocks; gave_rows = rows })

-- c is unsealed in stream 3, a in stream 1, and nothing in stream 2
abbrev both : List (ℕ × Charged)
both = (3, charged c 512 0 0) ∷ (1, charged a 512 0 0) ∷ []

enters_second : (own : Bool) (k : Charge) → entering charged_meets 2 (b, k) own both ≡ Seal 1 ∷ Enter 2 (b, k) ∷ []
enters_second true k = refl
enters_second false k = refl

or_true : (x : Bool) → (x || true) ≡ true
or_true true = refl
or_true false = refl

module _ (sizes : Sizes) (heavy taken rows : ℕ) where
  abbrev is_limit : Bool
  is_limit = ltb 262144 heavy || ltb sizes.data_blocks taken || ltb (sizes.inodes - 1) rows

  by_weight : 262144 < heavy → is_limit ≡ true
  by_weight over = ap (λ z. z || ltb sizes.data_blocks taken || ltb (sizes.inodes - 1) rows) (lt-ltb 262144 heavy over)

  by_blocks : sizes.data_blocks < taken → is_limit ≡ true
  by_blocks over = ap (λ z. (ltb 262144 heavy || z) || ltb (sizes.inodes - 1) rows) (lt-ltb sizes.data_blocks taken over)
      ∙ ap (λ z. z || ltb (sizes.inodes - 1) rows) (or_true (ltb 262144 heavy))

  by_rows : sizes.inodes - 1 < rows → is_limit ≡ true
  by_rows over = ap (λ z. (ltb 262144 heavy || ltb sizes.data_blocks taken) || z) (lt-ltb (sizes.inodes - 1) rows over)
      ∙ or_true (ltb 262144 heavy || ltb sizes.data_blocks taken)

  no_limit : heavy ≤ 262144 → taken ≤ sizes.data_blocks → rows ≤ sizes.inodes - 1 → is_limit ≡ false
  no_limit light blocks few =
      ap (λ z. z || ltb sizes.data_blocks taken || ltb (sizes.inodes - 1) rows) (le-ltb 262144 heavy light)
      ∙ ap (λ z. z || ltb (sizes.inodes - 1) rows) (le-ltb sizes.data_blocks taken blocks) ∙ le-ltb (sizes.inodes - 1) rows few

module _ (sizes : Sizes) (t : Rows) where
  -- b seals stream 1 before it enters stream 2, and not stream 2, where nothing is unsealed, whatever the limits say
  a_meeting : call_steps sizes t both (Accepted 2 b) ≡ Seal 1 ∷ Enter 2 (b, charge t b) ∷ []
  a_meeting = enters_second (seals_own sizes t both 2 b) (charge t b)

  a_stream : plain (call_steps sizes t both (SyncStream 3)) ≡ Seal 3 ∷ []
  a_stream = refl

  a_stream_without_updates : plain (call_steps sizes t both (SyncStream 2)) ≡ []
  a_stream_without_updates = refl

  a_file : plain (call_steps sizes t both (SyncFile 1)) ≡ Seal 1 ∷ []
  a_file = refl

  -- both need the node of the root, and change it not
  the_root : plain (call_steps sizes t both (SyncFile 0)) ≡ []
  the_root = refl

  all_streams : plain (call_steps sizes t both SyncAll) ≡ Seal 1 ∷ Seal 3 ∷ []
  all_streams = refl

  another_call : plain (call_steps sizes t both Other) ≡ []
  another_call = refl

  -- what is unsealed weighs 261,633, and with 512 more it is over the limit by one byte
  too_heavy : seals_own sizes t ((1, charged a 261633 0 0) ∷ []) 1 c ≡ true
  too_heavy = by_weight sizes (261633 + weight t c) (live (apply t c) + 0) (len (apply t c) + 0) (omega arith)

  -- where c keeps the blocks, it weighs 512: one byte less is not too much, whatever other streams weigh
  just_light : live (apply t c) ≡ live t → live (apply t c) ≤ sizes.data_blocks → len (apply t c) ≤ sizes.inodes - 1
      → seals_own sizes t ((2, charged b 261633 0 0) ∷ (1, charged a 261632 0 0) ∷ []) 1 c ≡ false
  just_light same blocks rows = no_limit sizes (261632 + weight t c) (live (apply t c) + 0) (len (apply t c) + 0) (omega arith) (omega arith) (omega arith)

  -- of 100 blocks the files take 90 after c, and 11 are given up in another stream and aren't free yet
  no_blocks : sizes.data_blocks ≡ 100 → live (apply t c) ≡ 90 → seals_own sizes t ((2, charged b 512 11 0) ∷ []) 1 c ≡ true
  no_blocks all taken = by_blocks sizes (0 + weight t c) (live (apply t c) + 11) (len (apply t c) + 0) (omega arith)

  -- with 10 they suffice
  just_blocks : sizes.data_blocks ≡ 100 → live (apply t c) ≡ 90 → live t ≡ 90 → len (apply t c) ≤ sizes.inodes - 1
      → seals_own sizes t ((2, charged b 512 10 0) ∷ []) 1 c ≡ false
  just_blocks all taken same rows = no_limit sizes (0 + weight t c) (live (apply t c) + 10) (len (apply t c) + 0) (omega arith) (omega arith) (omega arith)

  -- of 100 inodes one is the orphan directory's: 90 rows after c, and 10 given up in another stream, are one too many
  no_rows : sizes.inodes ≡ 100 → len (apply t c) ≡ 90 → seals_own sizes t ((2, charged b 512 0 10) ∷ []) 1 c ≡ true
  no_rows all taken = by_rows sizes (0 + weight t c) (live (apply t c) + 0) (len (apply t c) + 10) (omega arith)

  -- with 9 there is one left
  just_rows : sizes.inodes ≡ 100 → len (apply t c) ≡ 90 → live (apply t c) ≡ live t → live (apply t c) ≤ sizes.data_blocks
      → seals_own sizes t ((2, charged b 512 0 9) ∷ []) 1 c ≡ false
  just_rows all taken same blocks = no_limit sizes (0 + weight t c) (live (apply t c) + 0) (len (apply t c) + 9) (omega arith) (omega arith) (omega arith)

abbrev calls : List Call
calls = Accepted 1 a ∷ Accepted 2 b ∷ SyncAll ∷ []

enters_alone : (own : Bool) (k : Charge) → entering charged_meets 1 (a, k) own [] ≡ Enter 1 (a, k) ∷ []
enters_alone true k = refl
enters_alone false k = refl

enters_behind : (own : Bool) (j k : Charge) → entering charged_meets 2 (b, k) own ((1, (a, j)) ∷ []) ≡ Seal 1 ∷ Enter 2 (b, k) ∷ []
enters_behind true j k = refl
enters_behind false j k = refl

module _ (sizes : Sizes) (t : Rows) where
  its_steps : steps sizes t calls ≡ Enter 1 a ∷ Seal 1 ∷ Enter 2 b ∷ Seal 2 ∷ []
  its_steps =
      ap (λ l. plain (l ++ steps_from sizes (apply t a) (unsealed_after [] l) (Accepted 2 b ∷ SyncAll ∷ []))) (enters_alone (seals_own sizes t [] 1 a) (charge t a))
      ∙ ap (λ l. Enter 1 a ∷ plain (l ++ steps_from sizes (apply (apply t a) b) (unsealed_after ((1, (a, charge t a)) ∷ []) l) (SyncAll ∷ [])))
      (enters_behind (seals_own sizes (apply t a) ((1, (a, charge t a)) ∷ []) 2 b) (charge t a) (charge (apply t a) b))

  its_seals : seals_of sizes t calls ≡ (1, 1) ∷ (2, 1) ∷ []
  its_seals = ap seals its_steps

  kept_at_one : kept_at sizes t calls 1 ≡ (1, a) ∷ []
  kept_at_one = ap (λ l. kept (entered l) (cut_at l 1)) its_steps
