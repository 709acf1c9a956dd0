-- One slot after the other, in the words: lengths, the header, and the places of the list that are left. Assumes nothing.
use mathlib.Core.Path.{◌≡◌, refl, sym, ap, ◌∙◌, subst}
use mathlib.Core.Bool.{Bool, true, false}
use mathlib.Core.List.{List, [], ◌∷◌}
use Prim.Native.Nat.{ℕ, suc, ◌+◌, ◌-◌, ◌*◌, ◌≤◌, ◌<◌}
use native.Mathlib.Omega.{arith}
use native.Mathlib.Decide.{ℕ_discrete}
use borrow.Author.Tests.{eq-eqb, ne_eqb}
use lib.Dec.{eqb}
use lib.ListN.{length, get_or, set}
use lib.Seq.{length-sets, get_or-set_other}
use Rattle.laws.specs.Basics.{choose, keep, rising, basics}
use Rattle.laws.proofs.Lists.{get_or_rising, length-rising}
use Rattle.laws.proofs.Finding.{keep_same}
use Rattle.laws.proofs.Stores.{sets_other}
use Rattle.rules.specs.Map.{Free, Allocated, Used, state_of, is_allocated, map_rules}
use Rattle.rules.specs.Cells.{plain, undefined}
use Rattle.rules.specs.Layout.{cell_words}
use Rattle.rules.proofs.TwoBits.{set-state-length, state_other}
use Rattle.leaf_free.specs.FreeList.{capacity_of, count_of, place, pushed}
use Rattle.leaf_free.proofs.Steps.{length-pushed, count_pushed}
use Rattle.leaf_rooms.specs.Rooms.{stored}
use Rattle.leaf_cells.specs.Cells.{stored_cell}
use Rattle.leaf_symbols.specs.Table.{dropped}
use Rattle.heap_sweep.specs.Sweeps.{Swept, swept, freed, kept, sweep_slot, sweep_slots, sweep_all, sweep_dropped, doomed, CanSlot, CanSweep, CanDrop}

-- ---- the three ways of a slot

module _ (l : Swept) (s : ℕ) where
  abbrev way : Bool → Bool → Swept
  way used allocated = choose used (kept s l) (choose allocated (freed s l) l)

  pub slot_used : state_of l.map s ≡ Used → sweep_slot s l ≡ kept s l
  unfolding sweep_slot
  slot_used e = ap (λ (b : Bool). way b (is_allocated l.map s)) (eq-eqb (state_of l.map s) Used e)

  pub slot_allocated : state_of l.map s ≡ Allocated → sweep_slot s l ≡ freed s l
  unfolding sweep_slot map_rules
  slot_allocated e =
      ap (λ (b : Bool). way b (is_allocated l.map s)) (ne_eqb (state_of l.map s) Used (λ u. omega arith))
      ∙ ap (λ (b : Bool). way false b) (eq-eqb (state_of l.map s) Allocated e)

  pub slot_free : (state_of l.map s ≡ Used → ⊥) → (state_of l.map s ≡ Allocated → ⊥) → sweep_slot s l ≡ l
  unfolding sweep_slot map_rules
  slot_free u a =
      ap (λ (b : Bool). way b (is_allocated l.map s)) (ne_eqb (state_of l.map s) Used u)
      ∙ ap (λ (b : Bool). way false b) (ne_eqb (state_of l.map s) Allocated a)

-- ---- words with a slot freed

module _ (ws : List ℕ) (s : ℕ) where
  abbrev after : List ℕ
  after = stored_cell (pushed ws s) s (plain undefined)

  freed_length : length after ≡ length ws
  unfolding stored_cell stored
  freed_length = length-sets (pushed ws s) (8 + 8 * s) (cell_words (plain undefined)) ∙ length-pushed ws s

  stored_head : (k : ℕ) → k < 8 → get_or after k 0 ≡ get_or (pushed ws s) k 0
  unfolding stored_cell stored
  stored_head k low = sets_other (pushed ws s) (8 + 8 * s) (cell_words (plain undefined)) k (λ p. absurd (omega arith))

  -- no number of the header changes but the list's
  freed_head : (k : ℕ) → k < 8 → (k ≡ 2 → ⊥) → get_or after k 0 ≡ get_or ws k 0
  unfolding pushed
  freed_head k low d =
      stored_head k low ∙ get_or-set_other (set ws (place (count_of ws)) s) 2 k (count_of ws + 1) 0 d
      ∙ get_or-set_other ws (place (count_of ws)) k s 0 (λ e. omega arith)

  freed_count : 3 ≤ length ws → count_of after ≡ count_of ws + 1
  freed_count long = stored_head 2 (omega arith) ∙ count_pushed ws s long

-- ---- what a slot leaves

pub record Left (l r : Swept) (s : ℕ) : Type 0 where
  pub words_size : length r.words ≡ length l.words
  pub map-size : length r.map ≡ length l.map
  pub head : (k : ℕ) → k < 8 → (k ≡ 2 → ⊥) → get_or r.words k 0 ≡ get_or l.words k 0
  pub other : (t : ℕ) → (t ≡ s → ⊥) → state_of r.map t ≡ state_of l.map t
  pub list : 3 ≤ length l.words → count_of r.words ≡ count_of l.words + choose (is_allocated l.map s) 1 0

slot_left : (l : Swept) (s : ℕ) → Left l (sweep_slot s l) s
unfolding map_rules freed kept
slot_left l s =
    elim (ℕ_discrete (state_of l.map s) Used) [
      | yes u ↦
          subst (λ (r : Swept). Left l r s) (sym (slot_used l s u))
          (record {
            words_size = refl;
            map-size = set-state-length l.map s Allocated;
            head = λ k low d. refl;
            other = state_other l.map s Allocated (omega arith);
            list = λ long. omega (arith, ap {B = ℕ} (λ (b : Bool). choose b 1 0) (ne_eqb (state_of l.map s) Allocated (λ e. omega arith)));
          })
      | no n ↦
          elim (ℕ_discrete (state_of l.map s) Allocated) [
            | yes a ↦
                subst (λ (r : Swept). Left l r s) (sym (slot_allocated l s a))
                (record {
                  words_size = freed_length l.words s;
                  map-size = set-state-length l.map s Free;
                  head = freed_head l.words s;
                  other = state_other l.map s Free (omega arith);
                  list = λ long. omega (arith, freed_count l.words s long, ap {B = ℕ} (λ (b : Bool). choose b 1 0) (eq-eqb (state_of l.map s) Allocated a));
                })
            | no m ↦
                subst (λ (r : Swept). Left l r s) (sym (slot_free l s n m))
                (record {
                  words_size = refl;
                  map-size = refl;
                  head = λ k low d. refl;
                  other = λ t d. refl;
                  list = λ long. omega (arith, ap {B = ℕ} (λ (b : Bool). choose b 1 0) (ne_eqb (state_of l.map s) Allocated m));
                })
          ]
    ]

-- ---- the loop

-- one slot less to be freed, if this one was
doomed_on : (l : Swept) (s n : ℕ) → length (doomed l.map s (suc n)) ≡ choose (is_allocated l.map s) 1 0 + length (doomed (sweep_slot s l).map (suc s) n)
unfolding doomed basics map_rules
doomed_on l s n =
    by (is_allocated l.map s)
    ∙ ap (λ (k : List ℕ). choose (is_allocated l.map s) 1 0 + length k)
    (keep_same 0 (is_allocated l.map) (is_allocated (sweep_slot s l).map) (rising (suc s) n)
    (λ i h.
    let size = length-rising (suc s) n in
    let e = get_or_rising (suc s) n i 0 (omega arith) in
    ap (λ (x : ℕ). eqb x Allocated) (sym ((slot_left l s).other (get_or (rising (suc s) n) i 0) (λ q. omega arith)))))
  where
    by : (b : Bool) → length (choose b (s ∷ keep (is_allocated l.map) (rising (suc s) n)) (keep (is_allocated l.map) (rising (suc s) n))) ≡ choose b 1 0 + length (keep (is_allocated l.map) (rising (suc s) n))
    by true = omega arith
    by false = omega arith

-- what is left to sweep, and places of the list for what will be freed
pub record Sweeping (l : Swept) (size : ℕ) (r : Swept) (s : ℕ) : Type 0 where
  pub within : s ≤ size
  pub words_size : length r.words ≡ length l.words
  pub map-size : length r.map ≡ length l.map
  pub header : 8 ≤ length l.words
  pub rows : 8 + 8 * size ≤ length l.words
  pub states : size ≤ 4 * length l.map
  pub list : count_of r.words + length (doomed r.map s (size - s)) ≤ size
  pub rest : sweep_slots (rising s (size - s)) r ≡ sweep_slots (rising 0 size) l

pub sweeping : (ws m : List ℕ) → CanSweep ws m → Sweeping (swept ws m) (capacity_of ws) (swept ws m) 0
sweeping ws m c =
    let e : capacity_of ws ≡ capacity_of ws - 0 = omega arith in
    record {
      within = omega arith;
      words_size = refl;
      map-size = refl;
      header = c.header;
      rows = c.rows;
      states = c.states;
      list = subst (λ (n : ℕ). count_of ws + length (doomed m 0 n) ≤ capacity_of ws) e c.list;
      rest = ap (λ (n : ℕ). sweep_slots (rising 0 n) (swept ws m)) (sym e);
    }

module _ (l : Swept) (size : ℕ) (r : Swept) (s : ℕ) (w : Sweeping l size r s) (more : s < size) where
  one : size - s ≡ suc (size - (s + 1))
  one = omega arith

  pub sweeps : CanSlot r.words r.map s
  unfolding map_rules
  sweeps =
      record {
        row = omega (arith, w.rows, w.words_size);
        state = omega (arith, w.states, w.map-size);
        list = λ a.
            omega (
              arith,
              w.list,
              w.rows,
              w.words_size,
              ap (λ (n : ℕ). length (doomed r.map s n)) one,
              doomed_on r s (size - (s + 1)),
              ap {B = ℕ} (λ (b : Bool). choose b 1 0) a,
            );
      }

  pub sweeps_on : (q : Swept) → q ≡ sweep_slot s r → Sweeping l size q (s + 1)
  unfolding sweep_slots basics
  sweeps_on q e =
      let t = slot_left r s in
      let up : suc s ≡ s + 1 = omega arith in
      let g : Sweeping l size (sweep_slot s r) (s + 1) = record {
        within = omega arith;
        words_size = t.words_size ∙ w.words_size;
        map-size = t.map-size ∙ w.map-size;
        header = w.header;
        rows = w.rows;
        states = w.states;
        list =
            omega (
              arith,
              w.list,
              t.list (omega (arith, w.header, w.words_size)),
              ap (λ (n : ℕ). length (doomed r.map s n)) one,
              doomed_on r s (size - (s + 1)),
              ap (λ (n : ℕ). length (doomed (sweep_slot s r).map n (size - (s + 1)))) up,
            );
        rest =
            ap (λ (n : ℕ). sweep_slots (rising n (size - (s + 1))) (sweep_slot s r)) (sym up)
            ∙ ap (λ (n : ℕ). sweep_slots (rising s n) r) (sym one) ∙ w.rest;
      }
      in
      subst (λ (x : Swept). Sweeping l size x (s + 1)) (sym e) g

pub sweeps_end : (l : Swept) (size : ℕ) (r : Swept) (s : ℕ) → Sweeping l size r s → size ≤ s → capacity_of l.words ≡ size → r ≡ sweep_all l
unfolding sweep_all sweep_slots basics
sweeps_end l size r s w h e =
    let z : size - s ≡ 0 = omega arith in
    ap (λ (n : ℕ). sweep_slots (rising s n) r) (sym z) ∙ w.rest ∙ ap (λ (n : ℕ). sweep_slots (rising 0 n) l) (sym e)

-- ---- the whole

slots_left : (ss : List ℕ) (l : Swept) → (length (sweep_slots ss l).words ≡ length l.words) × (length (sweep_slots ss l).map ≡ length l.map) × (get_or (sweep_slots ss l).words 3 0 ≡ get_or l.words 3 0)
unfolding sweep_slots
slots_left [] l = (refl, refl, refl)
slots_left (s ∷ ss) l =
    let t = slots_left ss (sweep_slot s l) in
    let u = slot_left l s in
    (t.0 ∙ u.words_size, t.1 ∙ u.map-size, t.2 ∙ u.head 3 (omega arith) (λ e. omega arith))

pub all_words : (l : Swept) → length (sweep_all l).words ≡ length l.words
unfolding sweep_all
all_words l = (slots_left (rising 0 (capacity_of l.words)) l).0

pub all_map : (l : Swept) → length (sweep_all l).map ≡ length l.map
unfolding sweep_all
all_map l = (slots_left (rising 0 (capacity_of l.words)) l).1

pub all_table : (l : Swept) → get_or (sweep_all l).words 3 0 ≡ get_or l.words 3 0
unfolding sweep_all
all_table l = (slots_left (rising 0 (capacity_of l.words)) l).2

module _ (ws m ws' m' : List ℕ) (e : swept ws' m' ≡ sweep_all (swept ws m)) where
  pub can_drop : CanDrop ws m → (8 ≤ length ws') × (8 * get_or ws' 3 0 + 8 ≤ length ws')
  can_drop c =
      let size : length ws' ≡ length ws = ap (λ (l : Swept). length l.words) e ∙ all_words (swept ws m) in
      let table : get_or ws' 3 0 ≡ get_or ws 3 0 = ap (λ (l : Swept). get_or l.words 3 0) e ∙ all_table (swept ws m) in
      (omega (arith, c.sweep.header), omega (arith, c.table))

  pub drops_all : (ws'' : List ℕ) → ws'' ≡ dropped ws' m' → swept ws'' m' ≡ sweep_dropped (swept ws m)
  unfolding sweep_dropped
  drops_all ws'' d =
      ap (λ (x : List ℕ). swept x m') d ∙ ap (λ (l : Swept). swept (dropped l.words l.map) l.map) e
