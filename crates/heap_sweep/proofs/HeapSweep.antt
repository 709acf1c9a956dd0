-- Sweeping the lent words and the lent map is the rules' sweep of the heap that stands in them, after some of its slots in use
-- were marked: those are kept and all others freed. Assumes nothing.
use mathlib.Core.Path.{◌≡◌, refl, sym, ap, ◌∙◌, subst}
use mathlib.Core.Bool.{Bool, true, false, not}
use mathlib.Core.List.{List, [], ◌∷◌, ◌++◌}
use Prim.Native.Nat.{ℕ, zero, suc, ◌+◌, ◌-◌, ◌/◌, ◌≤◌, ◌<◌}
use native.Mathlib.Omega.{arith}
use native.Mathlib.Decide.{ℕ_discrete, dec_lt}
use borrow.Author.Tests.{eq-eqb, ne_eqb, eqb-true}
use lib.ListN.{length, length-append, length-set}
use Rattle.laws.specs.Basics.{choose, both, member, count, keep, rising, basics}
use Rattle.laws.proofs.Tests.{true≢false}
use Rattle.laws.proofs.Lists.{count_rising_in}
use Rattle.laws.proofs.Stores.{get_or_before_zeros}
use Rattle.laws.proofs.Pointwise.{count_here, count_other, count_append, count_rising_past, past_count}
use Rattle.laws.proofs.Members.{count_keep}
use Rattle.rules.specs.Map.{Free, Allocated, Used, state_of, set_state, is_allocated, map_rules}
use Rattle.rules.specs.Cells.{undefined, plain}
use Rattle.rules.specs.Heap.{Heap, capacity}
use Rattle.rules.specs.Collect.{free_slot, sweep, drop_entries}
use Rattle.rules.specs.Layout.{words_of, filled, layout_rules}
use Rattle.rules.proofs.TwoBits.{Bytes, state_past, state_behind, set-state-length, state_same, state_other, stay_bytes}
use Rattle.rules.proofs.LentLaws.{words_length, filled_length}
use Rattle.rules.proofs.Good.{Good, each_once, used_below, capacity_fours}
use Rattle.leaf_free.proofs.FreeWords.{with_free, push_words, capacity_word, count_word}
use Rattle.leaf_cells.specs.Cells.{stored_cell}
use Rattle.leaf_cells.proofs.HeapLaws.{stored_cell_is}
use Rattle.leaf_symbols.specs.Table.{dropped}
use Rattle.leaf_symbols.proofs.TableLaws.{dropped_is}
use Rattle.collect_laws.proofs.Sweeping.{turn, turn_sweeps, sweeps, Listed, freed_here, freed_listed}
use Rattle.collect_laws.proofs.SweptHeap.{good_listed}
use Rattle.heap_mark.specs.Marks.{set_states}
use Rattle.heap_mark.proofs.States.{same_states, states_length, states_bytes, states_here, states_other}
use Rattle.heap_sweep.specs.Sweeps.{Swept, swept, freed, kept, sweep_slot, sweep_slots, sweep_all, sweep_dropped, doomed, CanSweep, CanDrop}
use Rattle.heap_sweep.proofs.SlotLaws.{slot_used, slot_allocated, slot_free}

-- ---- a heap that is being swept

-- up to slot a it is swept; from there on the lent map has Used at the marked slots, all of them in use
pub record Between (n room : ℕ) (ms : List ℕ) (a : ℕ) (h : Heap) (m : List ℕ) : Type 0 where
  pub within : capacity h ≤ n
  pub listed : Listed h
  pub states : Bytes h.map
  pub size : length m ≡ room
  pub fits : length h.map ≤ room
  pub bytes : Bytes m
  pub behind : (s : ℕ) → s < a → state_of m s ≡ state_of h.map s
  pub marked : (s : ℕ) → a ≤ s → member s ms ≡ true → state_of m s ≡ Used
  pub in_use : (s : ℕ) → a ≤ s → member s ms ≡ true → state_of h.map s ≡ Allocated
  pub others : (s : ℕ) → a ≤ s → member s ms ≡ false → state_of m s ≡ state_of h.map s

module _ (n : ℕ) (h : Heap) (g : Listed h) (within : capacity h ≤ n) where
  in_map : (s : ℕ) → s < capacity h → s / 4 < length h.map
  in_map s l = omega (arith, g.states)

  -- a slot in use is not on the list, so there is a place left
  list_room : (s : ℕ) → s < capacity h → state_of h.map s ≡ Allocated → length h.free < n
  unfolding basics
  list_room s l e =
      let past : (t : ℕ) → capacity h ≤ t → count t (s ∷ h.free) ≡ 0 = λ t k. count_other t s h.free (λ q. omega arith) ∙ g.past t k in
      let few = each_once (capacity h) (s ∷ h.free) (past_count (capacity h) (s ∷ h.free) past) (λ t k. at_most t k) in
      omega (arith, few, within)
    where
      at_most : (t : ℕ) → t < capacity h → count t (s ∷ h.free) ≤ 1
      at_most t k =
          elim (ℕ_discrete t s) [
            | yes q ↦ omega (arith, count_here t s h.free q, g.once s l, ap (λ (x : ℕ). count x h.free) q)
            | no d ↦ omega (arith, count_other t s h.free d, g.once t k)
          ]

  -- a slot freed
  freed_words : (a : ℕ) → a < capacity h → state_of h.map a ≡ Allocated → stored_cell (Rattle.leaf_free.specs.FreeList.pushed (words_of n h) a) a (plain undefined) ≡ words_of n (free_slot a h)
  unfolding free_slot layout_rules
  freed_words a l e =
      ap (λ (ws : List ℕ). stored_cell ws a (plain undefined)) (push_words n h a (list_room a l e))
      ∙ stored_cell_is n (with_free h (a ∷ h.free)) a (plain undefined) l within

-- ---- one slot

pub record Step (n room : ℕ) (ms : List ℕ) (a : ℕ) (h : Heap) (m : List ℕ) (h' : Heap) : Type 0 where
  pub map : List ℕ
  pub lists : sweep_slot a (swept (words_of n h) m) ≡ swept (words_of n h') map
  pub between : Between n room ms (suc a) h' map

module _ (n room : ℕ) (ms : List ℕ) (a : ℕ) (h : Heap) (m : List ℕ) (w : Between n room ms a h m) (l : a < capacity h) where
  m_in : a / 4 < length m
  m_in = omega (arith, in_map n h w.listed w.within a l, w.size, w.fits)

  -- the map after this slot's state was stored, beside a heap's map that agrees
  module _ (v : ℕ) (small : v < 4) (h' : Heap) (within : capacity h' ≤ n) (g : Listed h') (states : Bytes h'.map) (size : length h'.map ≡ length h.map) (at : state_of h'.map a ≡ v) (off : (s : ℕ) → (s ≡ a → ⊥) → state_of h'.map s ≡ state_of h.map s) where
    stored_between : Between n room ms (suc a) h' (set_state m a v)
    stored_between =
        let other : (s : ℕ) → (s ≡ a → ⊥) → state_of (set_state m a v) s ≡ state_of m s = state_other m a v small in
        record {
          within = within;
          listed = g;
          states = states;
          size = set-state-length m a v ∙ w.size;
          fits = omega (arith, w.fits);
          bytes = stay_bytes m a v small w.bytes;
          behind = λ s k.
              elim (ℕ_discrete s a) [
                | yes q ↦ ap (state_of (set_state m a v)) q ∙ state_same m a v small m_in ∙ sym at ∙ ap (state_of h'.map) (sym q)
                | no d ↦ other s d ∙ w.behind s (omega arith) ∙ sym (off s d)
              ];
          marked = λ s k e. other s (λ q. omega arith) ∙ w.marked s (omega arith) e;
          in_use = λ s k e. off s (λ q. omega arith) ∙ w.in_use s (omega arith) e;
          others = λ s k e. other s (λ q. omega arith) ∙ w.others s (omega arith) e ∙ sym (off s (λ q. omega arith));
        }

  -- marked: Allocated again
  marked_step : member a ms ≡ true → Step n room ms a h m h
  unfolding kept
  marked_step e =
      record {
        map = set_state m a Allocated;
        lists = slot_used (swept (words_of n h) m) a (w.marked a (omega arith) e);
        between =
            stored_between Allocated (omega arith) h w.within w.listed w.states refl (w.in_use a (omega arith) e) (λ s d. refl);
      }

  -- not marked, and in use: freed
  freed_step : member a ms ≡ false → state_of h.map a ≡ Allocated → Step n room ms a h m (free_slot a h)
  unfolding freed free_slot
  freed_step e one =
      record {
        map = set_state m a Free;
        lists =
            slot_allocated (swept (words_of n h) m) a (w.others a (omega arith) e ∙ one)
            ∙ ap (λ (ws : List ℕ). swept ws (set_state m a Free)) (freed_words n h w.listed w.within a l one);
        between =
            stored_between Free (omega arith) (free_slot a h)
            (omega (arith, length-set h.cells a (plain undefined), w.within))
            (freed_listed h w.listed a one)
            (stay_bytes h.map a Free (omega arith) w.states)
            (set-state-length h.map a Free)
            (freed_here h w.listed a one)
            (state_other h.map a Free (omega arith));
      }

  -- not marked, and Free already
  free_step : member a ms ≡ false → (state_of h.map a ≡ Allocated → ⊥) → Step n room ms a h m h
  free_step e none =
      let same = w.others a (omega arith) e in
      record {
        map = m;
        lists =
            slot_free (swept (words_of n h) m) a (λ u. omega (arith, w.listed.once a l)) (λ u. none (sym same ∙ u));
        between =
            record {
              within = w.within;
              listed = w.listed;
              states = w.states;
              size = w.size;
              fits = w.fits;
              bytes = w.bytes;
              behind = λ s k.
                  elim (ℕ_discrete s a) [
                    | yes q ↦ ap (state_of m) q ∙ same ∙ ap (state_of h.map) (sym q)
                    | no d ↦ w.behind s (omega arith)
                  ];
              marked = λ s k. w.marked s (omega arith);
              in_use = λ s k. w.in_use s (omega arith);
              others = λ s k. w.others s (omega arith);
            };
      }

  step : Step n room ms a h m (turn ms a h)
  unfolding map_rules
  step = by (member a ms) refl
    where
      by : (b : Bool) → member a ms ≡ b → Step n room ms a h m (elim (both (is_allocated h.map a) (not b)) [ true ↦ free_slot a h | false ↦ h ])
      by true e =
          subst (λ (b : Bool). Step n room ms a h m (elim b [ true ↦ free_slot a h | false ↦ h ]))
          (sym (ap (λ (x : Bool). both x false) (eq-eqb (state_of h.map a) 1 (w.in_use a (omega arith) e)))) (marked_step e)
      by false e =
          elim (ℕ_discrete (state_of h.map a) Allocated) [
            | yes q ↦
                subst (λ (b : Bool). Step n room ms a h m (elim b [ true ↦ free_slot a h | false ↦ h ]))
                (sym (ap (λ (x : Bool). both x true) (eq-eqb (state_of h.map a) Allocated q))) (freed_step e q)
            | no q ↦
                subst (λ (b : Bool). Step n room ms a h m (elim b [ true ↦ free_slot a h | false ↦ h ]))
                (sym (ap (λ (x : Bool). both x true) (ne_eqb (state_of h.map a) Allocated q))) (free_step e q)
          ]

-- ---- all slots

zeros_bytes : (room : ℕ) (m : List ℕ) → Bytes m → Bytes (filled room m)
unfolding filled
zeros_bytes room m b k = subst (λ (x : ℕ). x < 256) (sym (get_or_before_zeros m (room - length m) k)) (b k)

module _ (n room : ℕ) (ms : List ℕ) where
  -- past the capacity nothing is in use
  past_same : (h : Heap) (m : List ℕ) → Between n room ms (capacity h) h m → (s : ℕ) → capacity h ≤ s → state_of m s ≡ state_of h.map s
  past_same h m w s k = by (member s ms) refl
    where
      by : (b : Bool) → member s ms ≡ b → state_of m s ≡ state_of h.map s
      by true e = absurd (omega (arith, w.in_use s k e, state_past h.map s (omega (arith, w.listed.states))))
      by false e = w.others s k e

  -- nothing is left: the lent map is the heap's
  map_done : (h : Heap) (m : List ℕ) → Between n room ms (capacity h) h m → m ≡ filled room h.map
  unfolding filled
  map_done h m w =
      same_states m (filled room h.map) w.bytes (zeros_bytes room h.map w.states)
      (w.size ∙ sym (filled_length room h.map w.fits))
      (λ s.
      elim (dec_lt s (capacity h)) [
        | yes k ↦ w.behind s k ∙ sym (state_behind h.map (room - length h.map) s)
        | no k ↦ past_same h m w s (omega arith) ∙ sym (state_behind h.map (room - length h.map) s)
      ])

  slots_swept : (k a : ℕ) (h : Heap) (m : List ℕ) → a + k ≡ capacity h → Between n room ms a h m → sweep_slots (rising a k) (swept (words_of n h) m) ≡ swept (words_of n (sweep ms (rising a k) h)) (filled room (sweep ms (rising a k) h).map)
  unfolding sweep_slots sweep basics
  slots_swept zero a h m e w =
      let q : a ≡ capacity h = omega arith in
      ap (swept (words_of n h)) (map_done h m (subst (λ (x : ℕ). Between n room ms x h m) q w))
  slots_swept (suc k) a h m e w =
      let t = step n room ms a h m w (omega arith) in
      ap (sweep_slots (rising (suc a) k)) t.lists
      ∙ slots_swept k (suc a) (turn ms a h) t.map (omega (arith, (turn_sweeps ms a h).size)) t.between

-- ---- what marking leaves

-- numbers that a test keeps stand no more often, and those that it does not keep not at all

count_dropped : (f : ℕ → Bool) (t : ℕ) → f t ≡ false → (l : List ℕ) → count t (keep f l) ≡ 0
unfolding basics
count_dropped f t e [] = refl
count_dropped f t e (x ∷ l) = by (f x) refl (count_dropped f t e l)
  where
    by : (b : Bool) → f x ≡ b → count t (keep f l) ≡ 0 → count t (choose b (x ∷ keep f l) (keep f l)) ≡ 0
    by true q i = count_other t x (keep f l) (λ p. true≢false (sym q ∙ ap f (sym p) ∙ e)) ∙ i
    by false q i = i

module _ (n room : ℕ) (ms : List ℕ) (h : Heap) (m : List ℕ) (w : Between n room ms 0 h m) where
  -- a slot that will be freed is in use, and so not on the list
  doomed_listed : (t : ℕ) → t < capacity h → is_allocated m t ≡ true → count t h.free ≡ 0
  unfolding map_rules
  doomed_listed t k e = by (member t ms) refl
    where
      by : (b : Bool) → member t ms ≡ b → count t h.free ≡ 0
      by true q = absurd (omega (arith, w.marked t (omega arith) q, eqb-true (state_of m t) 1 e))
      by false q = omega (arith, w.others t (omega arith) q, eqb-true (state_of m t) 1 e, w.listed.once t k)

  both_once : (t : ℕ) → t < capacity h → count t (h.free ++ doomed m 0 (capacity h)) ≤ 1
  unfolding doomed
  both_once t k = by (is_allocated m t) refl
    where
      by : (b : Bool) → is_allocated m t ≡ b → count t (h.free ++ keep (is_allocated m) (rising 0 (capacity h))) ≤ 1
      by true e =
          omega (
            arith,
            count_append t h.free (keep (is_allocated m) (rising 0 (capacity h))),
            doomed_listed t k e,
            count_keep (is_allocated m) t (rising 0 (capacity h)),
            count_rising_in 0 (capacity h) t (omega arith) (omega arith),
          )
      by false e =
          omega (
            arith,
            count_append t h.free (keep (is_allocated m) (rising 0 (capacity h))),
            count_dropped (is_allocated m) t e (rising 0 (capacity h)),
            w.listed.once t k,
          )

  doomed_room : length h.free + length (doomed m 0 (capacity h)) ≤ capacity h
  unfolding doomed
  doomed_room =
      omega (
        arith,
        each_once (capacity h) (h.free ++ doomed m 0 (capacity h))
            (past_count (capacity h) (h.free ++ doomed m 0 (capacity h))
            (λ t k.
            omega (
              arith,
              count_append t h.free (keep (is_allocated m) (rising 0 (capacity h))),
              w.listed.past t k,
              count_keep (is_allocated m) t (rising 0 (capacity h)),
              count_rising_past 0 (capacity h) t (omega arith),
            )))
            both_once,
        length-append h.free (doomed m 0 (capacity h)),
      )

  pub can_sweep : CanSweep (words_of n h) m
  can_sweep =
      let cap = capacity_word n h in
      record {
        header = omega (arith, words_length n h);
        rows = omega (arith, words_length n h, w.within);
        states = omega (arith, w.listed.states, w.size, w.fits);
        list =
            omega (
              arith,
              doomed_room,
              count_word n h,
              ap (λ (x : ℕ). length (doomed m 0 x)) cap,
            );
      }

  pub swept_is : sweep_all (swept (words_of n h) m) ≡ swept (words_of n (sweep ms (rising 0 (capacity h)) h)) (filled room (sweep ms (rising 0 (capacity h)) h).map)
  unfolding sweep_all
  swept_is =
      ap (λ (x : ℕ). sweep_slots (rising 0 x) (swept (words_of n h) m)) (capacity_word n h)
      ∙ slots_swept n room ms (capacity h) 0 h m (omega arith) w

  module _ (table : length h.table ≤ n) where
    pub can_drop_too : CanDrop (words_of n h) m
    can_drop_too =
        record { sweep = can_sweep; table = omega (arith, words_length n h, Rattle.leaf_symbols.proofs.TableLaws.count_word n h) }

    -- the sweep of the rules, and its table
    pub swept_dropped : sweep_dropped (swept (words_of n h) m) ≡ swept (words_of n (drop_entries (sweep ms (rising 0 (capacity h)) h))) (filled room (drop_entries (sweep ms (rising 0 (capacity h)) h)).map)
    unfolding sweep_dropped drop_entries
    swept_dropped =
        let after = sweep ms (rising 0 (capacity h)) h in
        ap (λ (l : Swept). swept (dropped l.words l.map) l.map) swept_is
        ∙ ap (λ (ws : List ℕ). swept ws (filled room after.map))
        (dropped_is n room after (omega (arith, ap length (sweeps ms (rising 0 (capacity h)) h).table)))

-- a good heap with slots in use marked in its lent map
pub marked_between : (n room : ℕ) (ms : List ℕ) (h : Heap) → Good h → capacity h ≤ n → length h.map ≤ room → Bytes h.map → ((s : ℕ) → member s ms ≡ true → state_of h.map s ≡ Allocated) → Between n room ms 0 h (set_states (filled room h.map) ms Used)
unfolding filled
marked_between n room ms h g within fits bytes used =
    let behind : (s : ℕ) → state_of (filled room h.map) s ≡ state_of h.map s = state_behind h.map (room - length h.map) in
    record {
      within = within;
      listed = good_listed h g;
      states = bytes;
      size = states_length Used (omega arith) ms (filled room h.map) ∙ filled_length room h.map fits;
      fits = fits;
      bytes = states_bytes Used (omega arith) ms (filled room h.map) (zeros_bytes room h.map bytes);
      behind = λ s k. absurd (omega arith);
      marked = λ s k e.
          states_here Used (omega arith) ms (filled room h.map) s
          (λ t q.
          omega (
            arith,
            used_below h g t (used t q),
            g.map-size,
            capacity_fours h g,
            filled_length room h.map fits,
          ))
          e;
      in_use = λ s k e. used s e;
      others = λ s k e. states_other Used (omega arith) ms (filled room h.map) s e ∙ behind s;
    }
