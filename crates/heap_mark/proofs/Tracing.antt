-- The loop of marking: what is marked is reached, and what it leads to is marked or waits on the stack. At the end the stack is
-- empty, and just what the roots reach is marked. Assumes nothing.
use mathlib.Core.Path.{◌≡◌, refl, sym, ap, ◌∙◌, subst}
use mathlib.Core.Bool.{Bool, true, false}
use mathlib.Core.List.{List, [], ◌∷◌, ◌++◌}
use mathlib.Core.Logic.{⊎_elim}
use Prim.Native.Nat.{ℕ, suc, ◌+◌, ◌-◌, ◌/◌, ◌≤◌, ◌<◌}
use native.Mathlib.Omega.{arith}
use native.Mathlib.Decide.{ℕ_discrete}
use borrow.Author.Tests.{eqb-true, eqb-false, eq-eqb}
use lib.Dec.{eqb}
use lib.ListN.{length, get_or, take}
use lib.Seq.{take-suc}
use Rattle.laws.specs.Basics.{member, basics}
use Rattle.laws.proofs.Tests.{true≢false, either_cases, either_left, either_right}
use Rattle.laws.proofs.Members.{member_end, among, is_member, every_member}
use Rattle.laws.proofs.Pointwise.{every_weaker}
use Rattle.rules.specs.Map.{Used, state_of, is_allocated, set_low_bits, map_rules}
use Rattle.rules.specs.Heap.{Heap, capacity, cell_at}
use Rattle.rules.specs.Collect.{leads_to, Reached, root, next, marked}
use Rattle.rules.proofs.TwoBits.{Bytes}
use Rattle.heap_sound_rows.specs.Rows.{lists}
use Rattle.heap_sound_rows.proofs.HeapFacts.{cells_length}
use Rattle.heap_mark.specs.Marks.{held, marking, CanPush, Pushed, linked, leads, CanMark, marked_map, mark_rules}
use Rattle.collect_laws.proofs.Reach.{marked_reached, reached_marked}
use Rattle.heap_mark.proofs.Pushes.{Grown, held_in_map, is_held, pushed_grown, pushed_total, pushed_size}
use Rattle.heap_mark.proofs.States.{same_states, states_length, states_bytes, states_other, states_here}

pub record Traced (h : Heap) (roots m₀ m stack : List ℕ) : Type 0 where
  pub size : length m ≡ length m₀
  pub kept : (s : ℕ) → (state_of m s ≡ Used → ⊥) → state_of m s ≡ state_of m₀ s
  pub sound : (s : ℕ) → state_of m s ≡ Used → Reached h roots s
  pub stacked : (s : ℕ) → member s stack ≡ true → state_of m s ≡ Used
  pub rooted : (s : ℕ) → member s roots ≡ true → state_of m s ≡ Used
  pub led : (s t : ℕ) → state_of m s ≡ Used → (member s stack ≡ true → ⊥) → member t (leads_to h (cell_at h s)) ≡ true → state_of m t ≡ Used
  pub bytes : Bytes m₀ → Bytes m

module _ (h : Heap) (roots m₀ : List ℕ) where
  -- the roots were pushed
  traced : (m st : List ℕ) → ((s : ℕ) → state_of m₀ s ≡ Used → ⊥) → Grown roots (marking m₀ []) (marking m st) → Traced h roots m₀ m st
  unfolding basics
  traced m st none g =
      record {
        size = g.size;
        kept = g.kept;
        sound = λ s u. ⊎_elim (λ v. absurd (none s v)) (λ v. root (among s roots v)) (g.only s u);
        stacked = λ s e. ⊎_elim (λ v. absurd (true≢false (sym v))) (λ v. v) (g.stack_only s e);
        rooted = g.new;
        led = λ s t u n e. ⊎_elim (λ v. absurd (none s v)) (λ v. absurd (n v)) (g.waiting s u);
        bytes = g.bytes;
      }

  -- a slot on the stack is marked
  top_used : (m st : List ℕ) (x : ℕ) → Traced h roots m₀ m (st ++ (x ∷ [])) → state_of m x ≡ Used
  top_used m st x t = t.stacked x (member_end x st x ∙ either_left (member x st) (eq-eqb x x refl))

  -- the next slot was taken off the stack, and what it leads to was pushed
  module _ (m st : List ℕ) (x : ℕ) (t : Traced h roots m₀ m (st ++ (x ∷ []))) (m' st' : List ℕ) (g : Grown (leads_to h (cell_at h x)) (marking m st) (marking m' st')) where
    led_on : (s u : ℕ) → state_of m' s ≡ Used → (member s st' ≡ true → ⊥) → member u (leads_to h (cell_at h s)) ≡ true → state_of m' u ≡ Used
    led_on s u used off e =
        ⊎_elim
        (λ was.
        elim (ℕ_discrete s x) [
          | yes q ↦ g.new u (ap (λ (n : ℕ). member u (leads_to h (cell_at h n))) (sym q) ∙ e)
          | no d ↦
              g.old u
              (t.led s u was
              (λ on.
              ⊎_elim (λ q. d (eqb-true s x q)) (λ q. off (g.stack_old s q))
              (either_cases (eqb s x) _ (sym (member_end s st x) ∙ on)))
              e)
        ])
        (λ on. absurd (off on)) (g.waiting s used)

    traced_on : Traced h roots m₀ m' st'
    traced_on =
        record {
          size = g.size ∙ t.size;
          kept = λ s n. g.kept s n ∙ t.kept s (λ u. n (g.old s u));
          sound = λ s u.
              ⊎_elim (λ v. t.sound s v) (λ v. next (t.sound x (top_used m st x t)) (among s (leads_to h (cell_at h x)) v)) (g.only s u);
          stacked = λ s e.
              ⊎_elim (λ v. g.old s (t.stacked s (member_end s st x ∙ either_right (eqb s x) v))) (λ v. v) (g.stack_only s e);
          rooted = λ s e. g.old s (t.rooted s e);
          led = led_on;
          bytes = λ b. g.bytes (t.bytes b);
        }

  -- nothing waits any more: what is reached is marked
  reached_used : (m : List ℕ) → Traced h roots m₀ m [] → (s : ℕ) → Reached h roots s → state_of m s ≡ Used
  unfolding basics
  reached_used m t s (root e) = t.rooted s (is_member s roots e)
  reached_used m t u (next {s} r e) =
      t.led s u (reached_used m t s r) (λ on. true≢false (sym on)) (is_member u (leads_to h (cell_at h s)) e)

-- ---- in the lent lists

module _ (words map elems scratch roots : List ℕ) (c : CanMark words map elems scratch roots) where
  abbrev h : Heap
  h = linked words elems

  none_used : (s : ℕ) → state_of map s ≡ Used → ⊥
  unfolding mark_rules
  none_used s u = eqb-false (state_of map s) Used (c.unmarked s) u

  allocated_held : (s : ℕ) → is_allocated map s ≡ true → held map s ≡ true
  unfolding map_rules
  allocated_held s e =
      let one = eqb-true (state_of map s) 1 e in
      is_held map s (omega arith) (omega arith)

  pub can_start : CanPush roots map scratch 0
  can_start =
      record {
        slots = every_weaker (is_allocated map) (held map) allocated_held roots c.roots_held;
        room = omega (arith, c.room);
      }

  pub starts : (m sc : List ℕ) (top : ℕ) → Pushed roots map scratch 0 m sc top → Traced h roots map m (take top sc)
  starts m sc top p = traced h roots map m (take top sc) none_used (pushed_grown roots map scratch 0 m sc top p can_start)

  -- only slots in use are reached
  reached_allocated : (s : ℕ) → Reached h roots s → is_allocated map s ≡ true
  reached_allocated s (root e) = every_member (is_allocated map) roots c.roots_held s (is_member s roots e)
  reached_allocated u (next {s} r e) =
      every_member (is_allocated map) (leads words elems s) (c.named s (reached_allocated s r)) u
      (is_member u (leads words elems s) e)

  size_is : capacity h ≡ get_or words 1 0
  size_is = cells_length (lists words [] [] elems)

  -- ---- a turn

  module _ (m sc : List ℕ) (top : ℕ) (some : 0 < top) (in_scratch : set_low_bits m + top ≤ length sc) (t : Traced h roots map m (take top sc)) where
    abbrev x : ℕ
    x = get_or sc (top - 1) 0

    split : take top sc ≡ take (top - 1) sc ++ (x ∷ [])
    split =
        let e : top ≡ suc (top - 1) = omega arith in
        ap (λ (n : ℕ). take n sc) e ∙ take-suc sc (top - 1) 0 (omega arith)

    now : Traced h roots map m (take (top - 1) sc ++ (x ∷ []))
    now = subst (λ (l : List ℕ). Traced h roots map m l) split t

    x_allocated : is_allocated map x ≡ true
    x_allocated = reached_allocated x (t.sound x (top_used h roots map m (take (top - 1) sc) x now))

    pub slot_below : x < get_or words 1 0
    slot_below = c.below x x_allocated

    now_held : (s : ℕ) → is_allocated map s ≡ true → held m s ≡ true
    unfolding map_rules
    now_held s e =
        elim (ℕ_discrete (state_of m s) Used) [
          | yes u ↦ is_held m s (omega arith) (omega arith)
          | no n ↦
              let one = t.kept s n ∙ eqb-true (state_of map s) 1 e in
              is_held m s (omega arith) (omega arith)
        ]

    pub can_turn : CanPush (leads words elems x) m sc (top - 1)
    can_turn =
        record {
          slots = every_weaker (is_allocated map) (held m) now_held (leads words elems x) (c.named x x_allocated);
          room = omega arith;
        }

    module _ (m' sc' : List ℕ) (top' : ℕ) (p : Pushed (leads words elems x) m sc (top - 1) m' sc' top') where
      -- whatever the map was before
      pub turn : (m₁ : List ℕ) → Traced h roots m₁ m (take top sc) → Traced h roots m₁ m' (take top' sc')
      turn m₁ t₁ =
          traced_on h roots m₁ m (take (top - 1) sc) x (subst (λ (l : List ℕ). Traced h roots m₁ m l) split t₁) m' (take top' sc')
          (pushed_grown (leads words elems x) m sc (top - 1) m' sc' top' p can_turn)

      pub turn_total : set_low_bits m' + top' ≡ set_low_bits m + (top - 1)
      turn_total = pushed_total (leads words elems x) m sc (top - 1) m' sc' top' p can_turn

      pub turn_size : length m' ≡ length m
      turn_size = pushed_size (leads words elems x) m sc (top - 1) m' sc' top' p can_turn

  -- ---- the end

  reached_member : (s : ℕ) → Reached h roots s → member s (marked h roots) ≡ true
  reached_member s r =
      reached_marked h roots (λ s. is_allocated map s ≡ true)
      (λ s e. subst (λ (n : ℕ). s < n) (sym size_is) (c.below s e))
      (every_member (is_allocated map) roots c.roots_held)
      (λ s t e m. every_member (is_allocated map) (leads words elems s) (c.named s e) t m)
      s r

  in_map : (s : ℕ) → member s (marked h roots) ≡ true → s / 4 < length map
  in_map s e = held_in_map map s (allocated_held s (reached_allocated s (marked_reached h roots s e)))

  pub ends : (m sc : List ℕ) (top : ℕ) → top ≡ 0 → Bytes map → Traced h roots map m (take top sc) → m ≡ marked_map words map elems roots
  ends m sc top z b t =
      same_states m (marked_map words map elems roots) (t.bytes b)
      (states_bytes Used (omega arith) (marked h roots) map b)
      (t.size ∙ sym (states_length Used (omega arith) (marked h roots) map))
      (λ s. by s (member s (marked h roots)) refl)
    where
      empty : Traced h roots map m []
      empty = subst (λ (n : ℕ). Traced h roots map m (take n sc)) z t

      by : (s : ℕ) (q : Bool) → member s (marked h roots) ≡ q → state_of m s ≡ state_of (marked_map words map elems roots) s
      by s true e =
          reached_used h roots map m empty s (marked_reached h roots s e)
          ∙ sym (states_here Used (omega arith) (marked h roots) map s in_map e)
      by s false e =
          t.kept s (λ u. true≢false (sym (reached_member s (t.sound s u)) ∙ e))
          ∙ sym (states_other Used (omega arith) (marked h roots) map s e)
