-- What sweeping does, slot by slot: a marked slot stays as it is, one in use that is not marked becomes Free, goes on the list
-- and shows Undefined, and a Free one stays Free. Document 01: "It frees, in rising order, what is not reached, writes Undefined
-- there, and puts each on top of the list." Assumes nothing.
use mathlib.Core.Path.{◌≡◌, refl, sym, ap, ◌∙◌}
use mathlib.Core.Bool.{Bool, true, false, not}
use mathlib.Core.List.{List, [], ◌∷◌}
use mathlib.Core.Logic.{⊎_elim}
use Prim.Native.Nat.{ℕ, zero, suc, ◌+◌, ◌*◌, ◌≤◌, ◌<◌}
use native.Mathlib.Omega.{arith}
use native.Mathlib.Decide.{ℕ_discrete, dec_lt}
use borrow.Author.Tests.{eqb-true, eq-eqb}
use lib.ListN.{length, get_or, set, length-set}
use lib.Seq.{get_or-set_same, get_or-set_other}
use Rattle.laws.specs.Basics.{both, member, count, basics}
use Rattle.laws.proofs.Tests.{true≢false}
use Rattle.laws.proofs.Pointwise.{count_here, count_other}
use Rattle.laws.proofs.Members.{member_cases}
use Rattle.rules.specs.Map.{Free, state_of, set_state, is_allocated, map_rules}
use Rattle.rules.specs.Cells.{undefined, Cell, plain}
use Rattle.rules.specs.Heap.{Heap, capacity, cell_at}
use Rattle.rules.specs.Collect.{free_slot, sweep}
use Rattle.rules.proofs.TwoBits.{state_past, set-state-length, state_same, state_other}

-- ---- what stays

-- a cell stays, or is Undefined
pub data SweptCell (before after : Cell) : Type 0 where
  kept : after ≡ before → SweptCell before after
  wiped : after ≡ plain undefined → SweptCell before after

swept_on : (a b c : Cell) → SweptCell a b → SweptCell b c → SweptCell a c
swept_on a b c p (wiped e) = wiped e
swept_on a b c (kept d) (kept e) = kept (e ∙ d)
swept_on a b c (wiped d) (kept e) = wiped (e ∙ d)

set-cell : (cs : List Cell) (s t : ℕ) → SweptCell (get_or cs t (plain undefined)) (get_or (set cs s (plain undefined)) t (plain undefined))
set-cell [] s t = kept refl
set-cell (c ∷ cs) zero zero = wiped refl
set-cell (c ∷ cs) zero (suc t) = kept refl
set-cell (c ∷ cs) (suc s) zero = kept refl
set-cell (c ∷ cs) (suc s) (suc t) = set-cell cs s t

pub record Sweeps (ms : List ℕ) (h h' : Heap) : Type 0 where
  pub chunk : h'.chunk ≡ h.chunk
  pub size : capacity h' ≡ capacity h
  pub states : length h'.map ≡ length h.map
  pub table : h'.table ≡ h.table
  pub bytes : h'.bytes ≡ h.bytes
  pub elements : h'.elements ≡ h.elements
  pub cells : (t : ℕ) → SweptCell (cell_at h t) (cell_at h' t)
  pub marked_cell : (t : ℕ) → member t ms ≡ true → cell_at h' t ≡ cell_at h t
  pub marked_state : (t : ℕ) → member t ms ≡ true → state_of h'.map t ≡ state_of h.map t
  pub unused : (t : ℕ) → state_of h.map t ≡ Free → state_of h'.map t ≡ Free

sweeps_on : (ms : List ℕ) (h h' h'' : Heap) → Sweeps ms h h' → Sweeps ms h' h'' → Sweeps ms h h''
sweeps_on ms h h' h'' p q =
    record {
      chunk = q.chunk ∙ p.chunk;
      size = q.size ∙ p.size;
      states = q.states ∙ p.states;
      table = q.table ∙ p.table;
      bytes = q.bytes ∙ p.bytes;
      elements = q.elements ∙ p.elements;
      cells = λ t. swept_on (cell_at h t) (cell_at h' t) (cell_at h'' t) (p.cells t) (q.cells t);
      marked_cell = λ t m. q.marked_cell t m ∙ p.marked_cell t m;
      marked_state = λ t m. q.marked_state t m ∙ p.marked_state t m;
      unused = λ t e. q.unused t (p.unused t e);
    }

sweeps_none : (ms : List ℕ) (h : Heap) → Sweeps ms h h
sweeps_none ms h =
    record {
      chunk = refl;
      size = refl;
      states = refl;
      table = refl;
      bytes = refl;
      elements = refl;
      cells = λ t. kept refl;
      marked_cell = λ t m. refl;
      marked_state = λ t m. refl;
      unused = λ t e. e;
    }

-- ---- a turn

-- what the rules do with a slot
abbrev pub turn : List ℕ → ℕ → Heap → Heap
turn ms s h = elim (both (is_allocated h.map s) (not (member s ms))) [ true ↦ free_slot s h | false ↦ h ]

-- it is freed only where it is in use and not marked
turn_by : (P : Heap → Type 0) (ms : List ℕ) (s : ℕ) (h : Heap) → (state_of h.map s ≡ 1 → member s ms ≡ false → P (free_slot s h)) → ((state_of h.map s ≡ 1 → member s ms ≡ false → ⊥) → P h) → P (turn ms s h)
unfolding map_rules
turn_by P ms s h freed left = by (is_allocated h.map s) (member s ms) refl refl
  where
    by : (a m : Bool) → is_allocated h.map s ≡ a → member s ms ≡ m → P (elim (both a (not m)) [ true ↦ free_slot s h | false ↦ h ])
    by true false e q = freed (eqb-true (state_of h.map s) 1 e) q
    by true true e q = left (λ u f. true≢false (sym q ∙ f))
    by false true e q = left (λ u f. true≢false (sym q ∙ f))
    by false false e q = left (λ u f. true≢false (sym (eq-eqb (state_of h.map s) 1 u) ∙ e))

module _ (ms : List ℕ) (s : ℕ) (h : Heap) where
  freed_sweeps : state_of h.map s ≡ 1 → member s ms ≡ false → Sweeps ms h (free_slot s h)
  unfolding free_slot
  freed_sweeps one off =
      let other : (t : ℕ) → member t ms ≡ true → t ≡ s → ⊥ = λ t m e. true≢false (sym m ∙ ap (λ (x : ℕ). member x ms) e ∙ off) in
      record {
        chunk = refl;
        size = length-set h.cells s (plain undefined);
        states = set-state-length h.map s Free;
        table = refl;
        bytes = refl;
        elements = refl;
        cells = set-cell h.cells s;
        marked_cell = λ t m. get_or-set_other h.cells s t (plain undefined) (plain undefined) (other t m);
        marked_state = λ t m. state_other h.map s Free (omega arith) t (other t m);
        unused = λ t e. state_other h.map s Free (omega arith) t (λ q. omega (arith, one, e, ap (state_of h.map) q)) ∙ e;
      }

  pub turn_sweeps : Sweeps ms h (turn ms s h)
  turn_sweeps = turn_by (Sweeps ms h) ms s h freed_sweeps (λ n. sweeps_none ms h)

pub sweeps : (ms ss : List ℕ) (h : Heap) → Sweeps ms h (sweep ms ss h)
unfolding sweep
sweeps ms [] h = sweeps_none ms h
sweeps ms (s ∷ ss) h = sweeps_on ms h (turn ms s h) (sweep ms ss (turn ms s h)) (turn_sweeps ms s h) (sweeps ms ss (turn ms s h))

-- ---- the free list

-- a slot is Allocated, or Free and on the list once, where it shows Undefined
pub record Listed (h : Heap) : Type 0 where
  pub states : capacity h ≡ 4 * length h.map
  pub once : (s : ℕ) → s < capacity h → count s h.free + state_of h.map s ≡ 1
  pub past : (s : ℕ) → capacity h ≤ s → count s h.free ≡ 0
  pub empty : (s : ℕ) → state_of h.map s ≡ Free → cell_at h s ≡ plain undefined

module _ (h : Heap) (g : Listed h) (a : ℕ) (one : state_of h.map a ≡ 1) where
  one_below : a < capacity h
  one_below =
      elim (dec_lt a (capacity h)) [
        | yes l ↦ l
        | no l ↦ absurd (omega (arith, state_past h.map a (omega (arith, g.states)), one))
      ]

  pub freed_here : state_of (free_slot a h).map a ≡ Free
  unfolding free_slot
  freed_here = state_same h.map a Free (omega arith) (omega (arith, one_below, g.states))

  freed_once : (s : ℕ) → s < capacity h → count s (free_slot a h).free + state_of (free_slot a h).map s ≡ 1
  unfolding free_slot
  freed_once s k =
      elim (ℕ_discrete s a) [
        | yes q ↦
            omega (
              arith,
              count_here s a h.free q,
              g.once a one_below,
              one,
              ap (λ (x : ℕ). count x h.free) q,
              ap (state_of (set_state h.map a Free)) q,
              freed_here,
            )
        | no d ↦ omega (arith, count_other s a h.free d, state_other h.map a Free (omega arith) s d, g.once s k)
      ]

  freed_empty : (s : ℕ) → state_of (free_slot a h).map s ≡ Free → cell_at (free_slot a h) s ≡ plain undefined
  unfolding free_slot
  freed_empty s e =
      elim (ℕ_discrete s a) [
        | yes q ↦
            ap (λ (x : ℕ). get_or (set h.cells a (plain undefined)) x (plain undefined)) q
            ∙ get_or-set_same h.cells a (plain undefined) (plain undefined) one_below
        | no d ↦
            get_or-set_other h.cells a s (plain undefined) (plain undefined) d
            ∙ g.empty s (sym (state_other h.map a Free (omega arith) s d) ∙ e)
      ]

  pub freed_listed : Listed (free_slot a h)
  unfolding free_slot
  freed_listed =
      let size = length-set h.cells a (plain undefined) in
      let long = set-state-length h.map a Free in
      record {
        states = omega (arith, g.states);
        once = λ s k. freed_once s (omega arith);
        past = λ s k. count_other s a h.free (λ q. omega (arith, one_below)) ∙ g.past s (omega arith);
        empty = freed_empty;
      }

turn_listed : (ms : List ℕ) (s : ℕ) (h : Heap) → Listed h → Listed (turn ms s h)
turn_listed ms s h g = turn_by Listed ms s h (λ one off. freed_listed h g s one) (λ n. g)

pub sweep_listed : (ms ss : List ℕ) (h : Heap) → Listed h → Listed (sweep ms ss h)
unfolding sweep
sweep_listed ms [] h g = g
sweep_listed ms (s ∷ ss) h g = sweep_listed ms ss (turn ms s h) (turn_listed ms s h g)

-- ---- what becomes Free

turn_frees : (ms : List ℕ) (s : ℕ) (h : Heap) → Listed h → s < capacity h → member s ms ≡ false → state_of (turn ms s h).map s ≡ Free
turn_frees ms s h g l off =
    turn_by (λ k. state_of k.map s ≡ Free) ms s h (λ one m. freed_here h g s one)
    (λ n.
    elim (ℕ_discrete (state_of h.map s) 1) [
      | yes one ↦ absurd (n one off)
      | no d ↦ omega (arith, g.once s l)
    ])

pub sweep_frees : (ms ss : List ℕ) (h : Heap) (t : ℕ) → Listed h → t < capacity h → member t ms ≡ false → member t ss ≡ true → state_of (sweep ms ss h).map t ≡ Free
unfolding sweep basics
sweep_frees ms [] h t g l off e = absurd (true≢false (sym e))
sweep_frees ms (s ∷ ss) h t g l off e =
    let k = turn ms s h in
    ⊎_elim
    (λ q.
    (sweeps ms ss k).unused t
    (ap (state_of k.map) q ∙ turn_frees ms s h g (omega arith) (ap (λ (x : ℕ). member x ms) (sym q) ∙ off)))
    (λ q. sweep_frees ms ss k t (turn_listed ms s h g) (omega (arith, (turn_sweeps ms s h).size)) off q)
    (member_cases t s ss e)
