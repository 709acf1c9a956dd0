-- What each step of the comparison does to the run that it keeps. Assumes nothing.
use mathlib.Core.Path.{◌≡◌, refl, sym, ap, ◌∙◌, subst}
use mathlib.Core.Bool.{Bool, true, false}
use mathlib.Core.List.Memᴰ
use mathlib.Core.List.{List, [], ◌∷◌, ◌++◌, append_assoc, Memᴰ}
use mathlib.Core.Logic.{⊎_elim}
use Prim.Native.Nat.{ℕ, suc, ◌+◌, ◌-◌, ◌*◌, ◌≤◌, ◌<◌}
use native.Mathlib.Omega.{arith}
use lib.ListN.{length, take, drop}
use lib.Seq.{drop_at}
use Rattle.laws.specs.Basics.{zeros}
use Rattle.laws.proofs.Zeros.{take-zeros, zeros_append}
use Rattle.laws.proofs.Lists.{length-zeros}
use Rattle.rules.specs.Cells.{Value, slot}
use Rattle.rules.specs.Heap.{Heap, capacity, in_use}
use Rattle.rules.specs.Equal.{Goal, alike, walks, fails, needs, step, Fails, now, Equal}
use Rattle.equal_laws.specs.Runs.{Run}
use Rattle.equal_laws.proofs.Runs.{begin_with, skip_needless, skip_alike, skip_walks, take-alike, take_walks, same_taken, reorder, finished}
use Rattle.leaf_classes.specs.Classes.{Together, Rises, weight, joined}
use Rattle.leaf_classes.proofs.Roots.{weight_most}
use Rattle.leaf_classes.proofs.Classes.{zeros_rise, zeros_apart, join_keeps, join_no, join_same, join_same_back, join_yes, join_light, join_weight}
use Rattle.heap_equal.specs.Parts.{wanted, pending, first_of, second_of}
use Rattle.heap_equal.specs.Boards.{AlikeJoined, WalksJoined, stacked, Shape, Board, Moved, Refuted, UsedSlots, Clear}
use Rattle.heap_equal.proofs.Scratch.{Beneath, pending_same, shape_kept, front_size, walks_size, new_front, old_back, front_beneath, pushed_front, pushed_walks, pushed_beneath, pushed_first, pushed_second, pushed_pending, mid_front, mid_walks, mid_beneath}

-- what stands behind may come before
swap_in : (a b c : List Goal) (g : Goal) → Memᴰ g (a ++ (b ++ c)) → Memᴰ g (b ++ (a ++ c))
swap_in a b c g m =
    ⊎_elim (λ p. Memᴰ.append_right b (Memᴰ.append_left c p))
    (λ p. ⊎_elim (λ q. Memᴰ.append_left (a ++ c) q) (λ q. Memᴰ.append_right b (Memᴰ.append_right a q)) (Memᴰ.append_cases b p))
    (Memᴰ.append_cases a m)

drop-zeros : (a n : ℕ) → a ≤ n → drop a (zeros n) ≡ zeros (n - a)
drop-zeros a n le =
    let e : a + (n - a) ≡ n = omega arith in
    ap (λ (m : ℕ). drop a (zeros m)) (sym e)
    ∙ ap (drop a) (sym (zeros_append a (n - a)))
    ∙ drop_at (zeros a) (zeros (n - a)) a (length-zeros a)

module _ (h : Heap) (c : ℕ) where
  -- ---- moves one after the other

  pub stay : (sc : List ℕ) (top : ℕ) (gs : List Goal) → Shape h c sc top → Moved h c gs sc top gs sc top
  stay sc top gs sh =
      record { shape = sh; gain = omega arith; walk_gain = omega arith; runs = λ first rest b. b }

  pub moved_then : (g₁ g₂ g₃ : List Goal) (s₁ s₂ s₃ : List ℕ) (t₁ t₂ t₃ : ℕ) → Moved h c g₁ s₁ t₁ g₂ s₂ t₂ → Moved h c g₂ s₂ t₂ g₃ s₃ t₃ → Moved h c g₁ s₁ t₁ g₃ s₃ t₃
  moved_then g₁ g₂ g₃ s₁ s₂ s₃ t₁ t₂ t₃ m n =
      record {
        shape = n.shape;
        gain = omega (arith, m.gain, n.gain);
        walk_gain = omega (arith, m.walk_gain, n.walk_gain);
        runs = λ first rest b. n.runs first rest (m.runs first rest b);
      }

  -- with further goals behind
  pub moved_before : (g₁ g₂ more : List Goal) (s₁ s₂ : List ℕ) (t₁ t₂ : ℕ) → Moved h c g₁ s₁ t₁ g₂ s₂ t₂ → Moved h c (g₁ ++ more) s₁ t₁ (g₂ ++ more) s₂ t₂
  moved_before g₁ g₂ more s₁ s₂ t₁ t₂ m =
      record {
        shape = m.shape;
        gain = m.gain;
        walk_gain = m.walk_gain;
        runs = λ first rest b.
            subst (λ (g : List Goal). Board h first c s₂ t₂ g) (sym (append_assoc g₂ more rest))
            (m.runs first (more ++ rest) (subst (λ (g : List Goal). Board h first c s₁ t₁ g) (append_assoc g₁ more rest) b));
      }

  pub refuted_then : (g₁ g₂ : List Goal) (s₁ s₂ : List ℕ) (t₁ t₂ : ℕ) → Moved h c g₁ s₁ t₁ g₂ s₂ t₂ → Refuted h c g₂ s₂ t₂ → Refuted h c g₁ s₁ t₁
  refuted_then g₁ g₂ s₁ s₂ t₁ t₂ m r = record { refuted = λ first rest b. r.refuted first rest (m.runs first rest b) }

  pub refuted_before : (g₁ more : List Goal) (s₁ : List ℕ) (t₁ : ℕ) → Refuted h c g₁ s₁ t₁ → Refuted h c (g₁ ++ more) s₁ t₁
  refuted_before g₁ more s₁ t₁ r =
      record {
        refuted = λ first rest b.
            r.refuted first (more ++ rest) (subst (λ (g : List Goal). Board h first c s₁ t₁ g) (append_assoc g₁ more rest) b);
      }

  module _ (sc : List ℕ) (top : ℕ) where
    -- a goal whose step fails
    pub step_fails : (g : Goal) → step h g ≡ fails → Refuted h c (g ∷ []) sc top
    step_fails g e = record { refuted = λ first rest b. b.run.fair g (Memᴰ.head refl) (now e) }

    module _ (sh : Shape h c sc top) where
      -- a goal that needs nothing
      pub needless : (g : Goal) → step h g ≡ needs [] → Moved h c (g ∷ []) sc top [] sc top
      needless g e =
          record {
            shape = sh;
            gain = omega arith;
            walk_gain = omega arith;
            runs = λ first rest b.
                record {
                  run =
                      skip_needless h first (Together (take c sc)) (Together (take c (drop c sc))) g
                      (rest ++ pending h c sc top)
                      e
                      b.run;
                };
          }

      -- the stack never leaves its room
      pub pair_room : 2 * c + 2 * top + 1 < length sc
      pair_room = omega (arith, sh.room, sh.height, weight_most (take c sc), front_size c sc sh.room)

      -- ---- two slots on the stack

      module _ (s t : ℕ) (us : UsedSlots h s t) (grown : top + 1 ≤ weight (take c sc)) where
        abbrev two : List ℕ
        two = stacked c sc top s t

        two_front : take c two ≡ take c sc
        two_front = pushed_front c sc top s t pair_room

        two_walks : take c (drop c two) ≡ take c (drop c sc)
        two_walks = pushed_walks c sc top s t pair_room

        two_under : Beneath c top sc two
        two_under = pushed_beneath c sc top s t pair_room

        two_used : (v : List ℕ → ℕ → ℕ) (x : ℕ) → v two top ≡ x → in_use h x ≡ true → ((i : ℕ) → i < top → in_use h (v two i) ≡ true) → (i : ℕ) → i < top + 1 → in_use h (v two i) ≡ true
        two_used v x e u below i low =
            elim (native.Mathlib.Decide.ℕ_discrete i top)
            [ yes q ↦ ap (λ (n : ℕ). in_use h (v two n)) q ∙ ap (in_use h) e ∙ u | no ne ↦ below i (omega arith) ]

        pushed_shape : Shape h c two (top + 1)
        pushed_shape =
            let old =
            shape_kept c top sc two two_under h sh (subst (λ (l : List ℕ). Rises l) (sym two_front) sh.alike_rise)
            (subst (λ (l : List ℕ). Rises l) (sym two_walks) sh.walks_rise)
            (subst (λ (l : List ℕ). weight (take c sc) ≤ weight l) (sym two_front) (omega arith)) in
            record {
              slots = sh.slots;
              room = old.room;
              alike_rise = old.alike_rise;
              walks_rise = old.walks_rise;
              height = subst (λ (l : List ℕ). top + 1 ≤ weight l) (sym two_front) grown;
              first_used = two_used (first_of c) s (pushed_first c sc top s t pair_room) us.first_used old.first_used;
              second_used = two_used (second_of c) t (pushed_second c sc top s t pair_room) us.second_used old.second_used;
            }

        pushed_board : (first : Goal) (rest : List Goal) → Board h first c sc top (wanted h s t ++ rest) → Board h first c two (top + 1) rest
        pushed_board first rest b =
            record {
              run =
                  subst (λ (gs : List Goal). Run h first (Together (take c two)) (Together (take c (drop c two))) (rest ++ gs))
                  (sym (pushed_pending c sc top s t pair_room h))
                  (same_taken h first (Together (take c sc)) (Together (take c (drop c sc))) (Together (take c two)) (Together (take c (drop c two)))
                  (rest ++ (wanted h s t ++ pending h c sc top))
                  (λ x y p. subst (λ (l : List ℕ). Together l x y) (sym two_front) p)
                  (λ x y p. subst (λ (l : List ℕ). Together l x y) two_front p)
                  (λ x y p. subst (λ (l : List ℕ). Together l x y) (sym two_walks) p)
                  (λ x y p. subst (λ (l : List ℕ). Together l x y) two_walks p)
                  (reorder h first (Together (take c sc)) (Together (take c (drop c sc)))
                  (wanted h s t ++ (rest ++ pending h c sc top))
                  (rest ++ (wanted h s t ++ pending h c sc top))
                  (swap_in (wanted h s t) rest (pending h c sc top))
                  (swap_in rest (wanted h s t) (pending h c sc top))
                  (subst (λ (p : List Goal). Run h first (Together (take c sc)) (Together (take c (drop c sc))) p)
                  (append_assoc (wanted h s t) rest (pending h c sc top))
                  b.run)));
            }

        -- goals that gave way to what the two slots need, while the classes grew, are on the stack
        pub pair_pushed : (gs : List Goal) (sc₀ : List ℕ) → Moved h c gs sc₀ top (wanted h s t) sc top → weight (take c sc₀) + 1 ≤ weight (take c sc) → Moved h c gs sc₀ top [] two (top + 1)
        pair_pushed gs sc₀ m more =
            record {
              shape = pushed_shape;
              gain = subst (λ (l : List ℕ). top + 1 + weight (take c sc₀) ≤ top + weight l) (sym two_front) (omega (arith, more));
              walk_gain =
                  subst (λ (l : List ℕ). weight (take c (drop c sc₀)) ≤ weight l) (sym two_walks) m.walk_gain;
              runs = λ first rest b. pushed_board first rest (m.runs first rest b);
            }

      -- ---- two slots of one class

      module _ (s t : ℕ) (s_in : s < c) (t_in : t < c) (r : Bool) (sc' : List ℕ) (told : AlikeJoined c sc s t sc' r) where
        abbrev A : List ℕ
        A = take c sc

        abbrev k : List ℕ
        k = (joined A s t).links

        ASize : length A ≡ c
        ASize = front_size c sc sh.room

        s_inside : s < length A
        s_inside = omega (arith, ASize)

        t_inside : t < length A
        t_inside = omega (arith, ASize)

        k_size : length k ≡ c
        k_size = (join_keeps A sh.alike_rise s t s_inside t_inside).size ∙ ASize

        front_is : take c sc' ≡ k
        front_is = ap (take c) told.scratch_is ∙ new_front c sc sh.room k k_size

        same_walks : take c (drop c sc') ≡ take c (drop c sc)
        same_walks = ap (λ (l : List ℕ). take c (drop c l)) told.scratch_is ∙ ap (take c) (old_back c sc sh.room k k_size)

        beneath : Beneath c top sc sc'
        beneath = subst (λ (l : List ℕ). Beneath c top sc l) (sym told.scratch_is) (front_beneath c sc sh.room k k_size top)

        pub class_shape : Shape h c sc' top
        class_shape =
            shape_kept c top sc sc' beneath h sh
            (subst (λ (l : List ℕ). Rises l) (sym front_is) (join_keeps A sh.alike_rise s t s_inside t_inside).rising)
            (subst (λ (l : List ℕ). Rises l) (sym same_walks) sh.walks_rise)
            (subst (λ (l : List ℕ). weight A ≤ weight l) (sym front_is) (join_light A sh.alike_rise s t s_inside t_inside))

        -- the two slots gave way to what they need by a join of the classes
        by_class : (gs : List Goal) → ((first : Goal) (rest : List Goal) → Run h first (Together A) (Together (take c (drop c sc))) (alike (slot s) (slot t) ∷ rest) → Run h first (Together k) (Together (take c (drop c sc))) (gs ++ rest)) → Moved h c (alike (slot s) (slot t) ∷ []) sc top gs sc' top
        by_class gs go =
            record {
              shape = class_shape;
              gain =
                  subst (λ (l : List ℕ). top + weight A ≤ top + weight l) (sym front_is)
                  (omega (arith, join_light A sh.alike_rise s t s_inside t_inside));
              walk_gain = subst (λ (l : List ℕ). weight (take c (drop c sc)) ≤ weight l) (sym same_walks) (omega arith);
              runs = λ first rest b.
                  record {
                    run =
                        subst (λ (p : List Goal). Run h first (Together (take c sc')) (Together (take c (drop c sc'))) ((gs ++ rest) ++ p))
                        (sym (pending_same c top sc sc' beneath h top (omega arith)))
                        (same_taken h first (Together k) (Together (take c (drop c sc))) (Together (take c sc')) (Together (take c (drop c sc')))
                        ((gs ++ rest) ++ pending h c sc top)
                        (λ x y p. subst (λ (l : List ℕ). Together l x y) (sym front_is) p)
                        (λ x y p. subst (λ (l : List ℕ). Together l x y) front_is p)
                        (λ x y p. subst (λ (l : List ℕ). Together l x y) (sym same_walks) p)
                        (λ x y p. subst (λ (l : List ℕ). Together l x y) same_walks p)
                        (subst (λ (p : List Goal). Run h first (Together k) (Together (take c (drop c sc))) p) (sym (append_assoc gs rest (pending h c sc top)))
                        (go first (rest ++ pending h c sc top) b.run)));
                  };
            }

        -- they were of one class
        pub alike_known : r ≡ false → Moved h c (alike (slot s) (slot t) ∷ []) sc top [] sc' top
        alike_known e =
            let was = sym told.answer_is ∙ e in
            by_class [] (λ first rest run.
            same_taken h first (Together A) (Together (take c (drop c sc))) (Together k) (Together (take c (drop c sc))) rest
            (λ x y p. join_same_back A sh.alike_rise s t s_inside t_inside was x y p)
            (λ x y p. join_same A sh.alike_rise s t s_inside t_inside was x y p)
            (λ x y p. p)
            (λ x y p. p)
            (skip_alike h first (Together A) (Together (take c (drop c sc))) s t rest (join_no A sh.alike_rise s t s_inside t_inside was) run))

        -- they are now
        pub alike_taken : r ≡ true → (gs : List Goal) → step h (alike (slot s) (slot t)) ≡ needs gs → Moved h c (alike (slot s) (slot t) ∷ []) sc top gs sc' top
        alike_taken e gs is =
            by_class gs (λ first rest run.
            take-alike h first (Together A) (Together (take c (drop c sc))) (Together k) s t gs rest
            (join_yes A sh.alike_rise s t s_inside t_inside (sym told.answer_is ∙ e))
            is
            run)

        pub alike_weight : r ≡ true → weight A + 1 ≤ weight (take c sc')
        alike_weight e =
            subst (λ (l : List ℕ). weight A + 1 ≤ weight l) (sym front_is)
            (join_weight A sh.alike_rise s t s_inside t_inside (sym told.answer_is ∙ e))

      -- ---- two slots of the walk

      module _ (s t : ℕ) (s_in : s < c) (t_in : t < c) (r : Bool) (sc' : List ℕ) (told : WalksJoined c sc s t sc' r) where
        abbrev W : List ℕ
        W = take c (drop c sc)

        abbrev j : List ℕ
        j = (joined W s t).links

        WSize : length W ≡ c
        WSize = walks_size c sc sh.room

        s_there : s < length W
        s_there = omega (arith, WSize)

        t_there : t < length W
        t_there = omega (arith, WSize)

        j_size : length j ≡ c
        j_size = (join_keeps W sh.walks_rise s t s_there t_there).size ∙ WSize

        same_front : take c sc' ≡ take c sc
        same_front = ap (take c) told.scratch_is ∙ mid_front c sc sh.room j j_size

        new_walks : take c (drop c sc') ≡ j
        new_walks = ap (λ (l : List ℕ). take c (drop c l)) told.scratch_is ∙ mid_walks c sc sh.room j j_size

        under : Beneath c top sc sc'
        under = subst (λ (l : List ℕ). Beneath c top sc l) (sym told.scratch_is) (mid_beneath c sc sh.room j j_size top)

        joined_shape : Shape h c sc' top
        joined_shape =
            shape_kept c top sc sc' under h sh (subst (λ (l : List ℕ). Rises l) (sym same_front) sh.alike_rise)
            (subst (λ (l : List ℕ). Rises l) (sym new_walks) (join_keeps W sh.walks_rise s t s_there t_there).rising)
            (subst (λ (l : List ℕ). weight (take c sc) ≤ weight l) (sym same_front) (omega arith))

        -- goals gave way to others by a join of the walk's classes
        by_join : (gs gs' : List Goal) → ((first : Goal) (rest : List Goal) → Run h first (Together (take c sc)) (Together W) (gs ++ rest) → Run h first (Together (take c sc)) (Together j) (gs' ++ rest)) → Moved h c gs sc top gs' sc' top
        by_join gs gs' go =
            record {
              shape = joined_shape;
              gain = subst (λ (l : List ℕ). top + weight (take c sc) ≤ top + weight l) (sym same_front) (omega arith);
              walk_gain =
                  subst (λ (l : List ℕ). weight W ≤ weight l) (sym new_walks) (join_light W sh.walks_rise s t s_there t_there);
              runs = λ first rest b.
                  record {
                    run =
                        subst (λ (p : List Goal). Run h first (Together (take c sc')) (Together (take c (drop c sc'))) ((gs' ++ rest) ++ p))
                        (sym (pending_same c top sc sc' under h top (omega arith)))
                        (same_taken h first (Together (take c sc)) (Together j) (Together (take c sc')) (Together (take c (drop c sc')))
                        ((gs' ++ rest) ++ pending h c sc top)
                        (λ x y p. subst (λ (l : List ℕ). Together l x y) (sym same_front) p)
                        (λ x y p. subst (λ (l : List ℕ). Together l x y) same_front p)
                        (λ x y p. subst (λ (l : List ℕ). Together l x y) (sym new_walks) p)
                        (λ x y p. subst (λ (l : List ℕ). Together l x y) new_walks p)
                        (subst (λ (p : List Goal). Run h first (Together (take c sc)) (Together j) p) (sym (append_assoc gs' rest (pending h c sc top)))
                        (go first (rest ++ pending h c sc top)
                        (subst (λ (p : List Goal). Run h first (Together (take c sc)) (Together W) p) (append_assoc gs rest (pending h c sc top)) b.run))));
                  };
            }

        -- the walk was here before
        pub walk_known : r ≡ false → Moved h c (walks s t ∷ []) sc top [] sc' top
        walk_known e =
            let was = sym told.answer_is ∙ e in
            by_join (walks s t ∷ []) [] (λ first rest run.
            same_taken h first (Together (take c sc)) (Together W) (Together (take c sc)) (Together j) rest
            (λ x y p. p)
            (λ x y p. p)
            (λ x y p. join_same_back W sh.walks_rise s t s_there t_there was x y p)
            (λ x y p. join_same W sh.walks_rise s t s_there t_there was x y p)
            (skip_walks h first (Together (take c sc)) (Together W) s t rest (join_no W sh.walks_rise s t s_there t_there was) run))

        -- it goes on
        pub walk_taken : r ≡ true → (gs : List Goal) → step h (walks s t) ≡ needs gs → Moved h c (walks s t ∷ []) sc top gs sc' top
        walk_taken e gs is =
            by_join (walks s t ∷ []) gs (λ first rest run.
            take_walks h first (Together (take c sc)) (Together W) (Together j) s t gs rest
            (join_yes W sh.walks_rise s t s_there t_there (sym told.answer_is ∙ e))
            is
            run)

        pub walk_weight : r ≡ true → weight W + 1 ≤ weight (take c (drop c sc'))
        walk_weight e =
            subst (λ (l : List ℕ). weight W + 1 ≤ weight l) (sym new_walks)
            (join_weight W sh.walks_rise s t s_there t_there (sym told.answer_is ∙ e))

      -- ---- the top of the stack

      pub popped : (n : ℕ) → top ≡ suc n → (gs : List Goal) → wanted h (first_of c sc n) (second_of c sc n) ≡ gs → Moved h c [] sc top gs sc n
      unfolding pending
      popped n e gs w =
          record {
            shape =
                record {
                  slots = sh.slots;
                  room = sh.room;
                  alike_rise = sh.alike_rise;
                  walks_rise = sh.walks_rise;
                  height = omega (arith, sh.height);
                  first_used = λ i l. sh.first_used i (omega arith);
                  second_used = λ i l. sh.second_used i (omega arith);
                };
            gain = omega arith;
            walk_gain = omega arith;
            runs = λ first rest b.
                record {
                  run =
                      subst (λ (p : List Goal). Run h first (Together (take c sc)) (Together (take c (drop c sc))) p)
                      (sym (append_assoc gs rest (pending h c sc n)))
                      (reorder h first (Together (take c sc)) (Together (take c (drop c sc)))
                      (rest ++ (gs ++ pending h c sc n))
                      (gs ++ (rest ++ pending h c sc n))
                      (swap_in rest gs (pending h c sc n))
                      (swap_in gs rest (pending h c sc n))
                      (subst (λ (p : List Goal). Run h first (Together (take c sc)) (Together (take c (drop c sc))) (rest ++ (p ++ pending h c sc n))) w
                      (subst (λ (m : ℕ). Run h first (Together (take c sc)) (Together (take c (drop c sc))) (rest ++ pending h c sc m)) e b.run)));
                };
          }

  -- ---- the beginning and the end

  module _ (sc : List ℕ) (all : Clear sc) (long : 8 * c + 128 ≤ length sc) where
    front_zero : take c sc ≡ zeros c
    front_zero = ap (take c) all.all_zero ∙ take-zeros c (length sc) (omega arith)

    walks_zero : take c (drop c sc) ≡ zeros c
    walks_zero =
        ap (λ (l : List ℕ). take c (drop c l)) all.all_zero
        ∙ ap (take c) (drop-zeros c (length sc) (omega arith))
        ∙ take-zeros c (length sc - c) (omega arith)

    pub clear_shape : c ≡ capacity h → Shape h c sc 0
    clear_shape e =
        record {
          slots = e;
          room = long;
          alike_rise = subst (λ (l : List ℕ). Rises l) (sym front_zero) (zeros_rise c);
          walks_rise = subst (λ (l : List ℕ). Rises l) (sym walks_zero) (zeros_rise c);
          height = omega arith;
          first_used = λ i l. absurd (omega arith);
          second_used = λ i l. absurd (omega arith);
        }

    pub clear_board : (g : Goal) → Board h g c sc 0 (g ∷ [])
    unfolding pending
    clear_board g =
        record {
          run =
              begin_with h g (Together (take c sc)) (Together (take c (drop c sc)))
              (λ x y p. zeros_apart c x y (subst (λ (l : List ℕ). Together l x y) front_zero p))
              (λ x y p. zeros_apart c x y (subst (λ (l : List ℕ). Together l x y) walks_zero p));
        }

  pub nothing_left : (sc : List ℕ) (v w : Value) → Board h (alike v w) c sc 0 [] → Equal h v w true
  unfolding pending
  nothing_left sc v w b = finished h v w (Together (take c sc)) (Together (take c (drop c sc))) b.run

pub fails_equal : (h : Heap) (v w : Value) → Fails h (alike v w) → Equal h v w false
unfolding Equal
fails_equal h v w f = (λ _. f, λ _. refl)
