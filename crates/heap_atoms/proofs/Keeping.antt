-- What a put keeps, step by step; and what is within the rooms at the end was within them all along. Assumes nothing.
use mathlib.Core.Path.{◌≡◌, refl, sym, ap, ◌∙◌, subst}
use mathlib.Core.Bool.{Bool, true, false}
use mathlib.Core.List.{List, [], ◌∷◌, ◌++◌}
use mathlib.Core.Option.{Option, none, some}
use Prim.Native.Nat.{ℕ, suc, ◌/◌, ◌≤◌, ◌<◌}
use native.Mathlib.Omega.{arith}
use borrow.Author.Tests.{ltb-true, lt-ltb}
use lib.Dec.{eqb, ltb}
use lib.ListN.{length, set, replicate, length-append, length-set}
use Rattle.laws.specs.Basics.{choose, every, find, basics}
use Rattle.laws.proofs.Tests.{both_left, both_right, both_true, every_append}
use Rattle.laws.proofs.Pointwise.{every_weaker}
use Rattle.laws.proofs.Options.{none_some, some_value}
use Rattle.rules.specs.Cells.{Value, slot, scalar, Cell, plain, undefined, pair, symbol, string, vector}
use Rattle.rules.specs.Nodes.{Atom}
use Rattle.rules.specs.Datum.{Datum, Data, atom, end, more, how_many}
use Rattle.rules.specs.Heap.{Heap, Entry, capacity, used_count, alloc, found, fitting, most_growths, with_cell, with_bytes, with_entry, block_after, heap_rules}
use Rattle.rules.specs.Layout.{Rooms}
use Rattle.rules.specs.Put.{Label, Making, Put, making, put_as, new_cell, in_slot, slot_in, put_string, make_symbol, put_symbol, with_label, slot_of, begin_label, labelled, end_label, with_block, store_at, put_atom, put, put_all, put_rules}
use Rattle.rules.proofs.Growth.{Whole, fitting_least, fitting_most}
use Rattle.leaf_free.proofs.Allocating.{Room, available, room, alloc_growing, alloc_used, alloc_available}
use Rattle.leaf_free.proofs.TakenSlot.{TakenFrom, alloc_taken}
use Rattle.heap_steps.proofs.CellSteps.{sized_of}
use Rattle.heap_steps.proofs.Sizes.{Sized, Larger, larger_on, new_cell_larger, larger_block, larger_element, in_slot_larger, labelled_larger, end_label_larger, put_larger, put_all_larger}
use Rattle.heap_atoms.specs.Makings.{Able, Within}

-- ---- within at the end, within before

pub within_before : {r : Rooms} {f : ℕ} {a b : Making} → Larger a b → Within r f b → Within r f a
within_before l w =
    record {
      used = omega (arith, l.used, w.used);
      bytes = omega (arith, l.bytes, w.bytes);
      elements = omega (arith, l.elements, w.elements);
      labels = omega (arith, l.labels, w.labels);
    }

-- ---- tests that go on holding

below_more : (a b s : ℕ) → a ≤ b → ltb s a ≡ true → ltb s b ≡ true
below_more a b s h e = lt-ltb s b (omega (arith, ltb-true s a e))

-- ---- a slot is taken

module _ (r : Rooms) (f : ℕ) (m : Making) (a : Able r f m) where
  able_least : capacity m.heap ≤ f
  able_least =
      omega (
        arith,
        a.limit_is,
        fitting_least most_growths m.heap.chunk r.slots (capacity m.heap) (omega (arith, a.growing.chunk_least)) a.growing.whole,
      )

  -- the limit is within the lent slots
  pub able_most : f ≤ r.slots
  able_most =
      omega (arith, a.limit_is, fitting_most most_growths m.heap.chunk r.slots (capacity m.heap) a.growing.within)

  pub some_available : used_count m.heap < f → 0 < available r.slots m.heap
  some_available h = omega (arith, a.limit_is, able_least, a.growing.free_size)

  pub able_sized : Sized m.heap
  able_sized = sized_of r.slots m.heap a.growing

  module _ (h : used_count m.heap < f) where
    fits : Room r.slots m.heap
    fits = room r.slots m.heap a.growing (some_available h)

    pub taken : TakenFrom m.heap (alloc m.heap)
    taken = alloc_taken r.slots m.heap a.growing fits

    pub able_alloc : (ls : List Label) → every (λ (x : Label). ltb x.slot (capacity (alloc m.heap).heap)) ls ≡ true → Able r f (making (alloc m.heap).heap ls)
    able_alloc ls below =
        let g = alloc_growing r.slots m.heap a.growing fits in
        record {
          growing = g;
          limit_is =
              omega (
                arith,
                a.limit_is,
                able_least,
                alloc_available r.slots m.heap a.growing fits,
                alloc_used r.slots m.heap a.growing fits,
                a.growing.free_size,
                g.free_size,
                fitting_least most_growths (alloc m.heap).heap.chunk r.slots (capacity (alloc m.heap).heap) (omega (arith, g.chunk_least)) g.whole,
              );
          table_size =
              omega (arith, a.table_size, ap length taken.table_kept, alloc_used r.slots m.heap a.growing fits);
          table_below =
              ap (every (λ (e : Entry). ltb e.slot (capacity (alloc m.heap).heap))) taken.table_kept
              ∙ every_weaker (λ (e : Entry). ltb e.slot (capacity m.heap)) (λ (e : Entry). ltb e.slot (capacity (alloc m.heap).heap))
              (λ e. below_more (capacity m.heap) (capacity (alloc m.heap).heap) e.slot taken.capacity_kept) m.heap.table a.table_below;
          labels_below = below;
        }

    -- the labels so far stay below the capacity
    pub labels_still : every (λ (x : Label). ltb x.slot (capacity (alloc m.heap).heap)) m.labels ≡ true
    labels_still =
        every_weaker (λ (x : Label). ltb x.slot (capacity m.heap)) (λ (x : Label). ltb x.slot (capacity (alloc m.heap).heap))
        (λ x. below_more (capacity m.heap) (capacity (alloc m.heap).heap) x.slot taken.capacity_kept) m.labels a.labels_below

-- a value's slot is below the capacity
abbrev pub Below : Heap → Value → Type 0
Below h (slot s) = s < capacity h
Below h (scalar x) = Unit {0}

-- what a part of a put leaves
pub record Kept (r : Rooms) (f : ℕ) (p : Put) : Type 0 where
  pub able : Able r f p.making
  pub below : Below p.making.heap p.value

-- ---- changes that leave the slots as they are

-- another cell in a slot
able_cell : (r : Rooms) (f : ℕ) (m : Making) (s : ℕ) (c : Cell) → Able r f m → Able r f (making (with_cell m.heap s c) m.labels)
able_cell r f m s c a =
    let size = length-set m.heap.cells s c in
    let g = a.growing in
    record {
      growing =
          record {
            slots_small = g.slots_small;
            chunk_least = g.chunk_least;
            chunk_fours = g.chunk_fours;
            chunk_within = g.chunk_within;
            whole = subst (λ (n : ℕ). Whole m.heap.chunk n) (sym size) g.whole;
            some = omega (arith, g.some);
            within = omega (arith, g.within);
            map-size = g.map-size ∙ ap (λ (n : ℕ). n / 4) (sym size);
            free_size = omega (arith, g.free_size);
            free_below = subst (λ (n : ℕ). every (λ s. ltb s n) m.heap.free ≡ true) (sym size) g.free_below;
          };
      limit_is = a.limit_is ∙ ap (fitting most_growths m.heap.chunk r.slots) (sym size);
      table_size = omega (arith, a.table_size);
      table_below = subst (λ (n : ℕ). every (λ (e : Entry). ltb e.slot n) m.heap.table ≡ true) (sym size) a.table_below;
      labels_below = subst (λ (n : ℕ). every (λ (x : Label). ltb x.slot n) m.labels ≡ true) (sym size) a.labels_below;
    }

-- more in a room
able_room : (r : Rooms) (f : ℕ) (m : Making) (b : List ℕ) (e : List Value) → Able r f m → Able r f (making (record { chunk = m.heap.chunk; cells = m.heap.cells; map = m.heap.map; free = m.heap.free; table = m.heap.table; bytes = b; elements = e }) m.labels)
able_room r f m b e a =
    let g = a.growing in
    record {
      growing =
          record {
            slots_small = g.slots_small;
            chunk_least = g.chunk_least;
            chunk_fours = g.chunk_fours;
            chunk_within = g.chunk_within;
            whole = g.whole;
            some = g.some;
            within = g.within;
            map-size = g.map-size;
            free_size = g.free_size;
            free_below = g.free_below;
          };
      limit_is = a.limit_is;
      table_size = a.table_size;
      table_below = a.table_below;
      labels_below = a.labels_below;
    }

-- more bytes
pub able_bytes : (r : Rooms) (f : ℕ) (m : Making) (t : List ℕ) → Able r f m → Able r f (making (with_bytes m.heap t) m.labels)
able_bytes r f m t a = able_room r f m (m.heap.bytes ++ t) m.heap.elements a

-- a block more, another element
pub able_block : (r : Rooms) (f : ℕ) (m : Making) (n : ℕ) → Able r f m → Able r f (with_block n m)
able_block r f m n a = able_room r f m m.heap.bytes (m.heap.elements ++ replicate n (scalar undefined)) a

pub able_element : (r : Rooms) (f : ℕ) (k : ℕ) (p : Put) → Able r f p.making → Able r f (store_at k p)
able_element r f k p a =
    able_room r f p.making p.making.heap.bytes (set p.making.heap.elements k p.value) a

-- an entry more, whose slot is below the capacity, while fewer entries than used slots stood
able_entry : (r : Rooms) (f : ℕ) (m : Making) (e : Entry) → Able r f m → e.slot < capacity m.heap → length m.heap.table < used_count m.heap → Able r f (making (with_entry m.heap e) m.labels)
unfolding basics
able_entry r f m e a below more_used =
    let g = a.growing in
    record {
      growing =
          record {
            slots_small = g.slots_small;
            chunk_least = g.chunk_least;
            chunk_fours = g.chunk_fours;
            chunk_within = g.chunk_within;
            whole = g.whole;
            some = g.some;
            within = g.within;
            map-size = g.map-size;
            free_size = g.free_size;
            free_below = g.free_below;
          };
      limit_is = a.limit_is;
      table_size = omega (arith, length-append m.heap.table (e ∷ []));
      table_below =
          every_append (λ (x : Entry). ltb x.slot (capacity m.heap)) m.heap.table (e ∷ []) a.table_below last;
      labels_below = a.labels_below;
    }
  where
    last : every (λ (x : Entry). ltb x.slot (capacity m.heap)) (e ∷ []) ≡ true
    last = both_true (lt-ltb e.slot (capacity m.heap) below) refl

-- ---- the steps

module _ (r : Rooms) (f : ℕ) where
  pub new_cell_kept : (m : Making) (c : Cell) → Able r f m → used_count m.heap < f → Kept r f (new_cell c m)
  unfolding put_rules
  new_cell_kept m c a h =
      let b = able_alloc r f m a h m.labels (labels_still r f m a h) in
      record {
        able = able_cell r f (making (alloc m.heap).heap m.labels) (alloc m.heap).slot c b;
        below =
            subst (λ (n : ℕ). (alloc m.heap).slot < n) (sym (length-set (alloc m.heap).heap.cells (alloc m.heap).slot c))
            (taken r f m a h).slot_below;
      }

  -- what is used after a new cell is one more
  pub new_cell_used : (m : Making) (c : Cell) → Able r f m → Within r f (new_cell c m).making → used_count m.heap < f
  unfolding put_rules
  new_cell_used m c a w =
      omega (
        arith,
        w.used,
        (Rattle.heap_steps.proofs.Sizes.alloc_taken m.heap (able_sized r f m a)).used,
        length-set (alloc m.heap).heap.cells (alloc m.heap).slot c,
      )

  pub in_slot_kept : (p : Put) → Kept r f p → Within r f (in_slot p).making → Kept r f (in_slot p)
  unfolding put_rules
  in_slot_kept p k w = go p.value k.below w
    where
      go : (v : Value) → Below p.making.heap v → Within r f (elim v as (λ v. Put) [ slot s ↦ put_as (slot s) p.making | scalar s ↦ new_cell (plain s) p.making ]).making → Kept r f (elim v as (λ v. Put) [ slot s ↦ put_as (slot s) p.making | scalar s ↦ new_cell (plain s) p.making ])
      go (slot s) b w = record { able = k.able; below = b }
      go (scalar s) b w = new_cell_kept p.making (plain s) k.able (new_cell_used p.making (plain s) k.able w)

  pub put_string_kept : (t : List ℕ) (m : Making) → Able r f m → Within r f (put_string t m).making → Kept r f (put_string t m)
  unfolding put_rules
  put_string_kept t m a w =
      let b = able_room r f m (m.heap.bytes ++ t) m.heap.elements a in
      let n = making (with_bytes m.heap t) m.labels in
      new_cell_kept n (string (block_after m.heap.bytes (length t))) b (new_cell_used n (string (block_after m.heap.bytes (length t))) b w)

  -- the heap of a new symbol before its entry
  pub symbol_cell : List ℕ → Making → Put
  symbol_cell t m = new_cell (symbol (block_after m.heap.bytes (length t))) (making (with_bytes m.heap t) m.labels)

  pub make_symbol_kept : (t : List ℕ) (n : ℕ) (m : Making) → Able r f m → Within r f (make_symbol t n m).making → Kept r f (make_symbol t n m)
  unfolding put_rules
  make_symbol_kept t n m a w =
      let b = able_room r f m (m.heap.bytes ++ t) m.heap.elements a in
      let q = making (with_bytes m.heap t) m.labels in
      let c = symbol (block_after m.heap.bytes (length t)) in
      let small = new_cell_used q c b (record { used = w.used; bytes = w.bytes; elements = w.elements; labels = w.labels }) in
      let k = new_cell_kept q c b small in
      let one = Rattle.heap_steps.proofs.Sizes.alloc_taken q.heap (able_sized r f q b) in
      record {
        able =
            able_entry r f (new_cell c q).making (record { slot = slot_in (new_cell c q); scope = n }) k.able k.below
            (omega (
              arith,
              a.table_size,
              ap length one.table,
              one.used,
              length-set (alloc q.heap).heap.cells (alloc q.heap).slot c,
            ));
        below = k.below;
      }

  -- an entry that was found leads to a slot below the capacity
  found_below : (g : Entry → Bool) (cap : ℕ) (es : List Entry) (e : Entry) → every (λ (e : Entry). ltb e.slot cap) es ≡ true → find g es ≡ some e → e.slot < cap
  unfolding basics
  found_below g cap [] e h q = absurd (none_some q)
  found_below g cap (x ∷ es) e h q = go (g x) (λ p. found_below g cap es e (both_right (ltb x.slot cap) _ h) p) q
    where
      go : (b : Bool) → (find g es ≡ some e → e.slot < cap) → elim b as (λ b. Option Entry) [ true ↦ some x | false ↦ find g es ] ≡ some e → e.slot < cap
      go true k q = subst (λ (y : Entry). y.slot < cap) (some_value q) (ltb-true x.slot cap (both_left (ltb x.slot cap) _ h))
      go false k q = k q

  pub put_symbol_kept : (t : List ℕ) (n : ℕ) (m : Making) → Able r f m → Within r f (put_symbol t n m).making → Kept r f (put_symbol t n m)
  unfolding put_rules heap_rules
  put_symbol_kept t n m a w = go (found m.heap t n) refl w
    where
      go : (o : Option Entry) → found m.heap t n ≡ o → Within r f (elim o as (λ o. Put) [ none ↦ make_symbol t n m | some e ↦ put_as (slot e.slot) m ]).making → Kept r f (elim o as (λ o. Put) [ none ↦ make_symbol t n m | some e ↦ put_as (slot e.slot) m ])
      go none q w = make_symbol_kept t n m a w
      go (some e) q w = record { able = a; below = found_below _ (capacity m.heap) m.heap.table e a.table_below q }

  -- a label leads to a slot below the capacity, and so does none at all
  slot_of_below : (l cap : ℕ) (ls : List Label) → 0 < cap → every (λ (x : Label). ltb x.slot cap) ls ≡ true → slot_of l ls < cap
  unfolding put_rules basics
  slot_of_below l cap [] p h = p
  slot_of_below l cap (x ∷ ls) p h = go (eqb x.label l) (slot_of_below l cap ls p (both_right (ltb x.slot cap) _ h))
    where
      go : (b : Bool) → slot_of l ls < cap → elim (elim b as (λ b. Option Label) [ true ↦ some x | false ↦ find (λ (x : Label). eqb x.label l) ls ]) as (λ o. ℕ) [ none ↦ 0 | some x ↦ x.slot ] < cap
      go true k = ltb-true x.slot cap (both_left (ltb x.slot cap) _ h)
      go false k = k

  pub put_atom_kept : (a : Atom) (m : Making) → Able r f m → Within r f (put_atom a m).making → Kept r f (put_atom a m)
  unfolding put_rules
  put_atom_kept (Atom.plain s) m a w = record { able = a; below = tt }
  put_atom_kept (Atom.string t) m a w = put_string_kept t m a w
  put_atom_kept (Atom.symbol t) m a w = put_symbol_kept t 0 m a w
  put_atom_kept (Atom.ident s t) m a w = put_symbol_kept t s m a w
  put_atom_kept (Atom.ref l) m a w =
      record { able = a; below = slot_of_below l (capacity m.heap) m.labels a.growing.some a.labels_below }

  -- ---- labels

  with_label_below : (l s cap : ℕ) (ls : List Label) → s < cap → every (λ (x : Label). ltb x.slot cap) ls ≡ true → every (λ (x : Label). ltb x.slot cap) (with_label l s ls) ≡ true
  unfolding put_rules basics
  with_label_below l s cap [] p h = both_true (lt-ltb s cap p) refl
  with_label_below l s cap (x ∷ ls) p h =
      go (eqb x.label l) (with_label_below l s cap ls p (both_right (ltb x.slot cap) _ h))
    where
      go : (b : Bool) → every (λ (x : Label). ltb x.slot cap) (with_label l s ls) ≡ true → every (λ (x : Label). ltb x.slot cap) (choose b (record { label = l; slot = s } ∷ ls) (x ∷ with_label l s ls)) ≡ true
      go true k = both_true (lt-ltb s cap p) (both_right (ltb x.slot cap) _ h)
      go false k = both_true (both_left (ltb x.slot cap) _ h) k

  pub labelled_kept : (l : ℕ) (m : Making) → Able r f m → used_count m.heap < f → Able r f (labelled l (begin_label l m) m)
  unfolding put_rules
  labelled_kept l m a h =
      able_alloc r f m a h (with_label l (alloc m.heap).slot m.labels)
      (with_label_below l (alloc m.heap).slot (capacity (alloc m.heap).heap) m.labels (taken r f m a h).slot_below (labels_still r f m a h))

  -- a definition's slot makes one more used
  pub labelled_used : (l : ℕ) (m : Making) → Able r f m → Within r f (labelled l (begin_label l m) m) → used_count m.heap < f
  unfolding put_rules
  labelled_used l m a w =
      omega (arith, w.used, (Rattle.heap_steps.proofs.Sizes.alloc_taken m.heap (able_sized r f m a)).used)

  pub end_label_kept : (s : ℕ) (p : Put) → Kept r f p → s < capacity p.making.heap → Kept r f (end_label s p)
  unfolding put_rules
  end_label_kept s p k small =
      record {
        able = able_cell r f p.making s _ k.able;
        below = subst (λ (n : ℕ). s < n) (sym (length-set p.making.heap.cells s _)) small;
      }

  -- ---- the whole

  -- within at the end of a pair, within after its car, and after its cdr
  mutual
    unfolding put_rules

    pub put_kept : (d : Datum) (m : Making) → Able r f m → Within r f (put d m).making → Kept r f (put d m)
    put_kept (atom a) m b w = put_atom_kept a m b w
    put_kept (Datum.pair a d) m b w =
        let z = able_sized r f m b in
        let x = put_larger a m z in
        let xs = larger_on x (in_slot_larger (put a m) x.sized) in
        let car = in_slot (put a m) in
        let y = put_larger d car.making xs.sized in
        let ys = larger_on y (in_slot_larger (put d car.making) y.sized) in
        let cdr = in_slot (put d car.making) in
        let last = new_cell_larger cdr.making ys.sized (pair (slot_in car) (slot_in cdr)) in
        let w3 = within_before last w in
        let w2 = within_before (in_slot_larger (put d car.making) y.sized) w3 in
        let w1 = within_before y w2 in
        let w0 = within_before (in_slot_larger (put a m) x.sized) w1 in
        let k1 = in_slot_kept (put a m) (put_kept a m b w0) w1 in
        let k2 = in_slot_kept (put d car.making) (put_kept d car.making k1.able w2) w3 in
        new_cell_kept cdr.making (pair (slot_in car) (slot_in cdr)) k2.able
        (new_cell_used cdr.making (pair (slot_in car) (slot_in cdr)) k2.able w)
    put_kept (Datum.vector ds) m b w =
        let z = able_sized r f m b in
        let bl = block_after m.heap.elements (how_many ds) in
        let start = with_block (how_many ds) m in
        let s = larger_block m (how_many ds) z in
        let e = put_all_larger ds bl.place start s.sized in
        let done = put_all ds bl.place start in
        let last = new_cell_larger done e.sized (vector bl) in
        let w1 = within_before last w in
        let a1 =
        put_all_kept ds bl.place start
        (able_room r f m m.heap.bytes (m.heap.elements ++ replicate (how_many ds) (scalar undefined)) b)
        w1
        in
        new_cell_kept done (vector bl) a1 (new_cell_used done (vector bl) a1 w)
    put_kept (Datum.def l d) m b w =
        let z = able_sized r f m b in
        let g = begin_label l m in
        let start = labelled l g m in
        let s = labelled_larger l m z in
        let e = put_larger d start s.sized in
        let last = end_label_larger g.slot (put d start) e.sized in
        let w2 = within_before last w in
        let w1 = within_before e w2 in
        let h = labelled_used l m b w1 in
        let k = put_kept d start (labelled_kept l m b h) w2 in
        end_label_kept g.slot (put d start) k
        (omega (arith, (taken r f m b h).slot_below, e.capacity_grows))

    pub put_all_kept : (ds : Data) (k : ℕ) (m : Making) → Able r f m → Within r f (put_all ds k m) → Able r f (put_all ds k m)
    put_all_kept end k m b w = b
    put_all_kept (more d ds) k m b w =
        let z = able_sized r f m b in
        let x = put_larger d m z in
        let y = larger_element k (put d m) x.sized in
        let rest = put_all_larger ds (suc k) (store_at k (put d m)) y.sized in
        let w2 = within_before rest w in
        let w1 = within_before y w2 in
        let kept = put_kept d m b w1 in
        put_all_kept ds (suc k) (store_at k (put d m))
        (able_room r f (put d m).making (put d m).making.heap.bytes (set (put d m).making.heap.elements k (put d m).value) kept.able)
        w
