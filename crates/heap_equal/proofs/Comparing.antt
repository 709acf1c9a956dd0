-- The pairs on the stack, turn by turn: the run that was given is the one that is left. Each turn takes a pair from the stack and
-- puts no more on it than the classes grow by; each step of the walk makes the walk's classes grow. Assumes nothing.
use mathlib.Core.Path.{◌≡◌, refl, sym, ◌∙◌, subst}
use mathlib.Core.Bool.{Bool, true, false}
use mathlib.Core.List.{List, [], ◌∷◌}
use Prim.Native.Nat.{ℕ, ◌+◌, ◌-◌, ◌*◌, ◌≤◌, ◌<◌}
use native.Mathlib.Omega.{arith}
use denote.Enum.Declared.{tag_of}
use lib.ListN.{length, take, drop}
use Rattle.rules.specs.Cells.{Block, block, vector}
use Rattle.rules.specs.Heap.{Heap, cell_at, elements_of}
use Rattle.rules.specs.Layout.{Lent, heap_of}
use Rattle.rules.specs.Equal.{Goal, alike, walks}
use Rattle.leaf_classes.specs.Classes.{weight}
use Rattle.leaf_classes.proofs.Roots.{weight_most}
use Rattle.leaf_cells.specs.Cells.{loaded}
use Rattle.std.specs.Prelude.{Some, None}
use Rattle.std.specs.Prelude as code
use Rattle.heap_equal.specs.declared.Parts.{Parts}
use Rattle.heap_equal.specs.declared.Parts.TheVariants.{Pairs, Vectors, Unlike}
use Rattle.heap_equal.specs.declared.Walked.{Walked}
use Rattle.heap_equal.specs.declared.Walked.TheVariants as walked
use Rattle.heap_equal.specs.Parts.{parted, wanted, facing, first_of, second_of}
use Rattle.heap_equal.specs.Boards.{Shape, Board, Moved, Refuted, Ready, NextTold, Elements, UsedSlots, GoesOn, WalkTold, Decides}
use Rattle.heap_equal.specs.contracts.Parts.{the_type}
use Rattle.heap_equal.proofs.Scratch.{front_size, walks_size}
use Rattle.heap_equal.proofs.CellParts.{pairs_are, vectors_are, pairs_want, vectors_want, unlike_wants}
use Rattle.heap_equal.proofs.SoundLists.{rows_inside, parts_loaded, elements_whole, two_blocks, elements_face}
use Rattle.heap_equal.proofs.Moves.{stay, moved_then, refuted_then, pair_room, popped, nothing_left, fails_equal}

-- no step has failed yet
pub record Comparing (h : Heap) (c : ℕ) (sc₀ : List ℕ) (top₀ : ℕ) (sc : List ℕ) (yes_yet : Bool) (top : ℕ) : Type 0 where
  pub size : length sc ≡ length sc₀
  pub no_failure : yes_yet ≡ true
  pub moved : Moved h c [] sc₀ top₀ [] sc top

-- the walk from s₀ and t₀ has come to s and t
pub record Walks (h : Heap) (c : ℕ) (sc₀ : List ℕ) (top₀ s₀ t₀ : ℕ) (sc : List ℕ) (yes_yet : Bool) (top s t : ℕ) : Type 0 where
  pub size : length sc ≡ length sc₀
  pub no_failure : yes_yet ≡ true
  pub moved : Moved h c (walks s₀ t₀ ∷ []) sc₀ top₀ (walks s t ∷ []) sc top
  pub used : UsedSlots h s t

-- how much of its room a turn may still take
abbrev pub left : ℕ → List ℕ → ℕ
left c sc = 2 * c - weight (take c sc)

abbrev pub walks_left : ℕ → List ℕ → ℕ
walks_left c sc = 2 * c - weight (take c (drop c sc))

module _ (c : ℕ) (sc : List ℕ) (room : 8 * c + 128 ≤ length sc) where
  weight_bound : weight (take c sc) ≤ 2 * c
  weight_bound = omega (arith, weight_most (take c sc), front_size c sc room)

  walks_bound : weight (take c (drop c sc)) ≤ 2 * c
  walks_bound = omega (arith, weight_most (take c (drop c sc)), walks_size c sc room)

module _ (l : Lent) (c : ℕ) (sc₀ : List ℕ) (top₀ : ℕ) (pre : Ready l c sc₀ top₀) where
  abbrev h : Heap
  h = heap_of l

  pub compare_begins : Comparing h c sc₀ top₀ sc₀ true top₀
  compare_begins = record { size = refl; no_failure = refl; moved = stay h c sc₀ top₀ [] pre.shape }

  -- a run that is refuted further on
  stopped : (sc : List ℕ) (top : ℕ) (gs : List Goal) → Moved h c [] sc₀ top₀ gs sc top → Refuted h c gs sc top → Decides h c sc₀ top₀ false
  stopped sc top gs m r =
      record { decided = λ v w b. fails_equal h v w ((refuted_then h c [] gs sc₀ sc top₀ top m r).refuted (alike v w) [] b) }

  module _ (sc : List ℕ) (yes_yet : Bool) (top : ℕ) (so_far : Comparing h c sc₀ top₀ sc yes_yet top) where
    sh : Shape h c sc top
    sh = so_far.moved.shape

    pub compare_ends : top ≤ 0 → Decides h c sc₀ top₀ yes_yet
    compare_ends le =
        subst (λ (r : Bool). Decides h c sc₀ top₀ r) (sym so_far.no_failure)
        (record {
          decided = λ v w b.
              nothing_left h c sc v w
              (subst (λ (n : ℕ). Board h (alike v w) c sc n []) (let z : top ≡ 0 = omega arith in z) (so_far.moved.runs (alike v w) [] b));
        })

    module _ (on : 0 < top) where
      abbrev n : ℕ
      n = top - 1

      abbrev s : ℕ
      s = first_of c sc n

      abbrev t : ℕ
      t = second_of c sc n

      pub top_room : 2 * c + 2 * (top - 1) + 1 < length sc
      top_room = omega (arith, pair_room h c sc top sh)

      pub top_used : UsedSlots h s t
      top_used = record { first_used = sh.first_used n (omega arith); second_used = sh.second_used n (omega arith) }

      pub top_rows : (8 * s + 16 ≤ length l.words) × (8 * t + 16 ≤ length l.words)
      top_rows = rows_inside l pre.lists_sound s t top_used

      taken : (gs : List Goal) → wanted h s t ≡ gs → Moved h c [] sc top gs sc n
      taken gs e = popped h c sc top sh n (omega arith) gs e

      -- the turn is over: less is left
      after : (sc' : List ℕ) (k : ℕ) (gs : List Goal) → wanted h s t ≡ gs → length sc' ≡ length sc → Moved h c gs sc n [] sc' k → Comparing h c sc₀ top₀ sc' yes_yet k
      after sc' k gs e same m =
          record {
            size = same ∙ so_far.size;
            no_failure = so_far.no_failure;
            moved =
                moved_then h c [] [] [] sc₀ sc sc' top₀ top k so_far.moved (moved_then h c [] gs [] sc sc sc' top n k (taken gs e) m);
          }

      less : (sc' : List ℕ) (k : ℕ) (gs : List Goal) → Moved h c gs sc n [] sc' k → k + left c sc' < top + left c sc
      less sc' k gs m =
          omega (arith, m.gain, weight_bound c sc sh.room, weight_bound c sc' m.shape.room)

      stops : (gs : List Goal) → wanted h s t ≡ gs → Refuted h c gs sc n → Decides h c sc₀ top₀ false
      stops gs e r =
          stopped sc n gs (moved_then h c [] [] gs sc₀ sc sc top₀ top n so_far.moved (taken gs e)) r

      module _ (p : Parts) (is : p ≡ parted (loaded l.words s) (loaded l.words t)) where
        parts_are : p ≡ parted (cell_at h s) (cell_at h t)
        parts_are = is ∙ parts_loaded l pre.lists_sound s t top_used

        whole : (x : ℕ) (b : Block) → cell_at h x ≡ vector b → length (elements_of h b) ≡ b.size
        whole x b e = elements_whole l pre.lists_sound x b e

        -- ---- neither

        module _ (u : p ≡ Unlike) where
          nothing : wanted h s t ≡ []
          nothing =
              unlike_wants h s t (cell_at h s) (cell_at h t) (whole s) (whole t) (sym u ∙ parts_are) refl refl

          rest : Moved h c [] sc n [] sc n
          rest = stay h c sc n [] (taken [] nothing).shape

          pub unlike_after : Comparing h c sc₀ top₀ sc yes_yet n
          unlike_after = after sc n [] nothing refl rest

          pub unlike_less : n + left c sc < top + left c sc
          unlike_less = less sc n [] rest

        -- ---- vectors

        module _ (x y m : ℕ) (found : p ≡ Vectors x y m) where
          cells_are : (cell_at h s ≡ vector (block x m)) × (cell_at h t ≡ vector (block y m))
          cells_are = vectors_are (cell_at h s) (cell_at h t) x y m (sym found ∙ parts_are)

          faces : wanted h s t ≡ facing l.elems x y m
          faces =
              vectors_want h s t (block x m) (block y m) (whole s (block x m) cells_are.0 ∙ sym (whole t (block y m) cells_are.1))
              cells_are.0
              cells_are.1
              ∙ elements_face l pre.lists_sound s t x y m cells_are.0 cells_are.1

          pub vectors_ask : Ready l c sc n × Elements l x y m
          vectors_ask = (
            record { lists_sound = pre.lists_sound; shape = (taken (facing l.elems x y m) faces).shape },
            two_blocks l pre.lists_sound s t x y m cells_are.0 cells_are.1,
          )

          module _ (sc' : List ℕ) (r : code.Option ℕ) (told : NextTold h c (facing l.elems x y m) sc n sc' r) where
            module _ (k : ℕ) (e : r ≡ Some k) where
              pushed : Moved h c (facing l.elems x y m) sc n [] sc' k
              unfolding NextTold
              pushed = subst (λ (z : code.Option ℕ). NextTold h c (facing l.elems x y m) sc n sc' z) e told

              pub vectors_after : length sc' ≡ length sc → Comparing h c sc₀ top₀ sc' yes_yet k
              vectors_after same = after sc' k (facing l.elems x y m) faces same pushed

              pub vectors_less : k + left c sc' < top + left c sc
              vectors_less = less sc' k (facing l.elems x y m) pushed

            pub vectors_stop : r ≡ None → Decides h c sc₀ top₀ false
            unfolding NextTold
            vectors_stop e =
                stops (facing l.elems x y m) faces
                (subst (λ (z : code.Option ℕ). NextTold h c (facing l.elems x y m) sc n sc' z) e told)

        -- ---- pairs

        module _ (first : tag_of the_type p ≡ 0) where
          two_pairs : wanted h s t ≡ walks s t ∷ []
          two_pairs = at p parts_are first
            where
              at : (q : Parts) → q ≡ parted (cell_at h s) (cell_at h t) → tag_of the_type q ≡ 0 → wanted h s t ≡ walks s t ∷ []
              at (Pairs a d b e) i z =
                  let k = pairs_are (cell_at h s) (cell_at h t) a d b e i in pairs_want h s t a d b e k.0 k.1
              at (Vectors x y m) i z = absurd (omega (arith, z))
              at Unlike i z = absurd (omega (arith, z))

          pub walk_begins : Walks h c sc n s t sc yes_yet n s t
          walk_begins =
              record {
                size = refl;
                no_failure = so_far.no_failure;
                moved = stay h c sc n (walks s t ∷ []) (taken (walks s t ∷ []) two_pairs).shape;
                used = top_used;
              }

          module _ (sc₁ : List ℕ) (yes₁ : Bool) (top₁ s₁ t₁ : ℕ) (way : Walks h c sc n s t sc₁ yes₁ top₁ s₁ t₁) where
            pub step_asks : Ready l c sc₁ top₁ × UsedSlots h s₁ t₁
            step_asks = (record { lists_sound = pre.lists_sound; shape = way.moved.shape }, way.used)

            module _ (sc₂ : List ℕ) (r : Walked) (told : WalkTold h c s₁ t₁ sc₁ top₁ sc₂ r) where
              module _ (k d e : ℕ) (is_on : r ≡ walked.On k d e) where
                on_told : GoesOn h c s₁ t₁ sc₁ top₁ sc₂ k d e
                unfolding WalkTold
                on_told = subst (λ (z : Walked). WalkTold h c s₁ t₁ sc₁ top₁ sc₂ z) is_on told

                pub walk_again : length sc₂ ≡ length sc₁ → Walks h c sc n s t sc₂ yes₁ k d e
                walk_again same =
                    record {
                      size = same ∙ way.size;
                      no_failure = way.no_failure;
                      moved =
                          moved_then h c (walks s t ∷ []) (walks s₁ t₁ ∷ []) (walks d e ∷ []) sc sc₁ sc₂ n top₁ k way.moved on_told.moved;
                      used = on_told.used;
                    }

                pub walk_less : walks_left c sc₂ < walks_left c sc₁
                walk_less = omega (arith, on_told.more_walked, walks_bound c sc₂ on_told.moved.shape.room)

              module _ (is_end : r ≡ walked.Ends) where
                whole_walk : Moved h c (walks s t ∷ []) sc n [] sc₂ top₁
                unfolding WalkTold
                whole_walk =
                    moved_then h c (walks s t ∷ []) (walks s₁ t₁ ∷ []) [] sc sc₁ sc₂ n top₁ top₁ way.moved
                    (subst (λ (z : Walked). WalkTold h c s₁ t₁ sc₁ top₁ sc₂ z) is_end told)

                pub walk_after : length sc₂ ≡ length sc₁ → Comparing h c sc₀ top₀ sc₂ yes₁ top₁
                walk_after same =
                    let m = after sc₂ top₁ (walks s t ∷ []) two_pairs (same ∙ way.size) whole_walk in
                    record { size = m.size; no_failure = way.no_failure; moved = m.moved }

                pub walk_after_less : top₁ + left c sc₂ < top + left c sc
                walk_after_less = less sc₂ top₁ (walks s t ∷ []) whole_walk

              pub walk_stop : r ≡ walked.Differs → Decides h c sc₀ top₀ false
              unfolding WalkTold
              walk_stop e =
                  stops (walks s t ∷ []) two_pairs
                  (refuted_then h c (walks s t ∷ []) (walks s₁ t₁ ∷ []) sc sc₁ n top₁ way.moved
                  (subst (λ (z : Walked). WalkTold h c s₁ t₁ sc₁ top₁ sc₂ z) e told))
