-- Along a put everything only grows: the slots used, the rooms in use, the labels. So what fits after a put fits at every
-- step of it. Assumes nothing.
use mathlib.Core.Path.{◌≡◌, refl, sym, ap, ◌∙◌, subst}
use mathlib.Core.Bool.{Bool, true, false}
use mathlib.Core.List.{List, [], ◌∷◌, ◌++◌, reverse}
use mathlib.Core.Option.{Option, none, some}
use Prim.Native.Nat.{ℕ, suc, ◌+◌, ◌-◌, ◌≤◌, ◌<◌}
use native.Mathlib.Omega.{arith}
use lib.Dec.{eqb}
use lib.ListN.{length, set, replicate, length-append, length-set, length-reverse, length-replicate}
use Rattle.laws.specs.Basics.{choose, rising}
use Rattle.laws.proofs.Lists.{length-rising}
use Rattle.rules.specs.Cells.{Value, slot, scalar, Cell, plain, undefined, pair, symbol, string, vector}
use Rattle.rules.specs.Nodes.{Atom}
use Rattle.rules.specs.Datum.{Datum, Data, atom, end, more, how_many}
use Rattle.rules.specs.Heap.{Heap, Entry, Given, capacity, used_count, grow, pop, alloc, found, with_cell, with_bytes, with_entry, block_after}
use Rattle.rules.specs.Put.{Label, Making, Put, making, put_as, new_cell, in_slot, put_string, make_symbol, put_symbol, with_label, begin_label, labelled, end_label, with_block, store_at, put_atom, put, put_all, put_rules}
use Rattle.rules.proofs.Growth.{Whole, grown_whole, rises}
use Rattle.leaf_free.proofs.Allocating.{Next, next, empty, free_or_not, pop_is, alloc_next, alloc_empty}
use Rattle.leaf_free.proofs.FreeWords.{goal}

-- ---- allocating, with no bound on the slots

-- the size is whole chunks, and the list no longer than it
pub record Sized (h : Heap) : Type 0 where
  pub positive : 0 < h.chunk
  pub whole : Whole h.chunk (capacity h)
  pub some : 0 < capacity h
  pub free_size : length h.free ≤ capacity h

-- what stays and what grows when a slot is given
pub record Taken (h : Heap) (g : Given) : Type 0 where
  pub sized : Sized g.heap
  pub capacity_grows : capacity h ≤ capacity g.heap
  pub used : used_count g.heap ≡ used_count h + 1
  pub chunk : g.heap.chunk ≡ h.chunk
  pub bytes : g.heap.bytes ≡ h.bytes
  pub elements : g.heap.elements ≡ h.elements
  pub table : g.heap.table ≡ h.table

pop_taken : (h : Heap) → Sized h → Next h → Taken h (pop h)
pop_taken h z t =
    let size = ap length t.is in
    subst (λ (g : Given). Taken h g) (sym (pop_is h t))
    (record {
      sized = record { positive = z.positive; whole = z.whole; some = z.some; free_size = omega (arith, z.free_size) };
      capacity_grows = omega arith;
      used = omega (arith, z.free_size);
      chunk = refl;
      bytes = refl;
      elements = refl;
      table = refl;
    })

module _ (h : Heap) (z : Sized h) (gone : h.free ≡ []) where
  above : capacity h < goal h
  above = rises h.chunk (capacity h) z.positive z.some z.whole

  grown_capacity : capacity (grow h) ≡ goal h
  unfolding grow
  grown_capacity =
      length-append h.cells _
      ∙ (let e : capacity h + (goal h - capacity h) ≡ goal h = omega (arith, above) in
      ap (λ (n : ℕ). capacity h + n) (length-replicate (goal h - capacity h) (plain undefined)) ∙ e)

  grown_free : length (grow h).free ≡ goal h - capacity h
  unfolding grow
  grown_free =
      length-append (reverse (rising (capacity h) (goal h - capacity h))) h.free
      ∙ (λ i.
      (length-reverse (rising (capacity h) (goal h - capacity h)) ∙ length-rising (capacity h) (goal h - capacity h)) i
      + ap length gone i)
      ∙ native.Mathlib.Nat.add-zero (goal h - capacity h)

  grow_sized : Sized (grow h)
  unfolding grow
  grow_sized =
      record {
        positive = z.positive;
        whole = subst (λ (n : ℕ). Whole h.chunk n) (sym grown_capacity) (grown_whole h.chunk (capacity h));
        some = omega (arith, above, grown_capacity);
        free_size = omega (arith, grown_capacity, grown_free);
      }

  grow_used : used_count (grow h) ≡ used_count h
  grow_used = omega (arith, above, grown_capacity, grown_free, ap length gone)

-- the new list is not empty
grow_filled : (h : Heap) → Sized h → h.free ≡ [] → Next (grow h)
grow_filled h z gone =
    elim (free_or_not (grow h))
    [ next t ↦ t | empty e ↦ absurd (omega (arith, above h z gone, grown_free h z gone, ap length e)) ]

pub alloc_taken : (h : Heap) → Sized h → Taken h (alloc h)
unfolding grow
alloc_taken h z =
    elim (free_or_not h) [
      | next t ↦ subst (λ (g : Given). Taken h g) (sym (alloc_next h t)) (pop_taken h z t)
      | empty gone ↦
          let t = pop_taken (grow h) (grow_sized h z gone) (grow_filled h z gone) in
          subst (λ (g : Given). Taken h g) (sym (alloc_empty h gone))
          (record {
            sized = t.sized;
            capacity_grows = omega (arith, t.capacity_grows, above h z gone, grown_capacity h z gone);
            used = t.used ∙ ap (λ (n : ℕ). n + 1) (grow_used h z gone);
            chunk = t.chunk;
            bytes = t.bytes;
            elements = t.elements;
            table = t.table;
          })
    ]

-- ---- one making is no larger than another

pub record Larger (a b : Making) : Type 0 where
  pub sized : Sized b.heap
  pub capacity_grows : capacity a.heap ≤ capacity b.heap
  pub used : used_count a.heap ≤ used_count b.heap
  pub chunk : b.heap.chunk ≡ a.heap.chunk
  pub bytes : length a.heap.bytes ≤ length b.heap.bytes
  pub elements : length a.heap.elements ≤ length b.heap.elements
  pub labels : length a.labels ≤ length b.labels

pub larger_same : (a : Making) → Sized a.heap → Larger a a
larger_same a z =
    record
    { sized = z; capacity_grows = omega arith; used = omega arith; chunk = refl; bytes = omega arith; elements = omega arith; labels = omega arith }

pub larger_on : {a b c : Making} → Larger a b → Larger b c → Larger a c
larger_on p q =
    record {
      sized = q.sized;
      capacity_grows = omega (arith, p.capacity_grows, q.capacity_grows);
      used = omega (arith, p.used, q.used);
      chunk = q.chunk ∙ p.chunk;
      bytes = omega (arith, p.bytes, q.bytes);
      elements = omega (arith, p.elements, q.elements);
      labels = omega (arith, p.labels, q.labels);
    }

-- ---- the steps of a put

module _ (m : Making) (z : Sized m.heap) where
  pub new_cell_larger : (c : Cell) → Larger m (new_cell c m).making
  unfolding put_rules
  new_cell_larger c =
      let t = alloc_taken m.heap z in
      let g = alloc m.heap in
      let size = length-set g.heap.cells g.slot c in
      record {
        sized =
            record {
              positive = t.sized.positive;
              whole = subst (λ (n : ℕ). Whole g.heap.chunk n) (sym size) t.sized.whole;
              some = omega (arith, t.sized.some);
              free_size = omega (arith, t.sized.free_size);
            };
        capacity_grows = omega (arith, t.capacity_grows);
        used = omega (arith, t.used);
        chunk = t.chunk;
        bytes = omega (arith, ap length t.bytes);
        elements = omega (arith, ap length t.elements);
        labels = omega arith;
      }

-- a making with more in a room, an entry more, another cell or element: as large at least
larger_room : (m : Making) (b : List ℕ) (e : List Value) (t : List Entry) → Sized m.heap → length m.heap.bytes ≤ length b → length m.heap.elements ≤ length e → Larger m (making (record { chunk = m.heap.chunk; cells = m.heap.cells; map = m.heap.map; free = m.heap.free; table = t; bytes = b; elements = e }) m.labels)
larger_room m b e t z p q =
    record {
      sized = record { positive = z.positive; whole = z.whole; some = z.some; free_size = z.free_size };
      capacity_grows = omega arith;
      used = omega arith;
      chunk = refl;
      bytes = p;
      elements = q;
      labels = omega arith;
    }

larger_cell : (m : Making) (s : ℕ) (c : Cell) → Sized m.heap → Larger m (making (with_cell m.heap s c) m.labels)
larger_cell m s c z =
    let size = length-set m.heap.cells s c in
    record {
      sized =
          record {
            positive = z.positive;
            whole = subst (λ (n : ℕ). Whole m.heap.chunk n) (sym size) z.whole;
            some = omega (arith, z.some);
            free_size = omega (arith, z.free_size);
          };
      capacity_grows = omega arith;
      used = omega arith;
      chunk = refl;
      bytes = omega arith;
      elements = omega arith;
      labels = omega arith;
    }

pub larger_bytes : (m : Making) (t : List ℕ) → Sized m.heap → Larger m (making (with_bytes m.heap t) m.labels)
larger_bytes m t z = larger_room m (m.heap.bytes ++ t) m.heap.elements m.heap.table z (omega (arith, length-append m.heap.bytes t)) (omega arith)

pub larger_block : (m : Making) (n : ℕ) → Sized m.heap → Larger m (with_block n m)
larger_block m n z =
    larger_room m m.heap.bytes (m.heap.elements ++ replicate n (scalar undefined)) m.heap.table z (omega arith)
    (omega (arith, length-append m.heap.elements (replicate n (scalar undefined))))

pub larger_entry : (m : Making) (e : Entry) → Sized m.heap → Larger m (making (with_entry m.heap e) m.labels)
larger_entry m e z = larger_room m m.heap.bytes m.heap.elements (m.heap.table ++ (e ∷ [])) z (omega arith) (omega arith)

pub larger_element : (k : ℕ) (p : Put) → Sized p.making.heap → Larger p.making (store_at k p)
larger_element k p z =
    larger_room p.making p.making.heap.bytes (set p.making.heap.elements k p.value) p.making.heap.table z (omega arith)
    (omega (arith, length-set p.making.heap.elements k p.value))

pub in_slot_larger : (p : Put) → Sized p.making.heap → Larger p.making (in_slot p).making
unfolding put_rules
in_slot_larger p z = go p.value
  where
    go : (v : Value) → Larger p.making (elim v as (λ v. Put) [ slot s ↦ put_as (slot s) p.making | scalar s ↦ new_cell (plain s) p.making ]).making
    go (slot s) = larger_same p.making z
    go (scalar s) = new_cell_larger p.making z (plain s)

pub put_string_larger : (t : List ℕ) (m : Making) → Sized m.heap → Larger m (put_string t m).making
unfolding put_rules
put_string_larger t m z =
    let b = larger_bytes m t z in
    larger_on b (new_cell_larger (making (with_bytes m.heap t) m.labels) b.sized (string (block_after m.heap.bytes (length t))))

pub make_symbol_larger : (t : List ℕ) (n : ℕ) (m : Making) → Sized m.heap → Larger m (make_symbol t n m).making
unfolding put_rules
make_symbol_larger t n m z =
    let b = larger_bytes m t z in
    let c = new_cell_larger (making (with_bytes m.heap t) m.labels) b.sized (symbol (block_after m.heap.bytes (length t))) in
    larger_on b (larger_on c (larger_entry _ _ c.sized))

pub put_symbol_larger : (t : List ℕ) (n : ℕ) (m : Making) → Sized m.heap → Larger m (put_symbol t n m).making
unfolding put_rules
put_symbol_larger t n m z = go (found m.heap t n)
  where
    go : (o : Option Entry) → Larger m (elim o as (λ o. Put) [ none ↦ make_symbol t n m | some e ↦ put_as (slot e.slot) m ]).making
    go none = make_symbol_larger t n m z
    go (some e) = larger_same m z

pub put_atom_larger : (a : Atom) (m : Making) → Sized m.heap → Larger m (put_atom a m).making
unfolding put_rules
put_atom_larger (Atom.plain s) m z = larger_same m z
put_atom_larger (Atom.string t) m z = put_string_larger t m z
put_atom_larger (Atom.symbol t) m z = put_symbol_larger t 0 m z
put_atom_larger (Atom.ident s t) m z = put_symbol_larger t s m z
put_atom_larger (Atom.ref l) m z = larger_same m z

-- ---- labels

pub labels_longer : (l s : ℕ) (ls : List Label) → length ls ≤ length (with_label l s ls)
unfolding put_rules
labels_longer l s [] = omega arith
labels_longer l s (x ∷ xs) = go (eqb x.label l) (labels_longer l s xs)
  where
    go : (b : Bool) → length xs ≤ length (with_label l s xs) → suc (length xs) ≤ length (choose b (record { label = l; slot = s } ∷ xs) (x ∷ with_label l s xs))
    go true h = omega arith
    go false h = omega arith

pub labelled_larger : (l : ℕ) (m : Making) → Sized m.heap → Larger m (labelled l (begin_label l m) m)
unfolding put_rules
labelled_larger l m z =
    let t = alloc_taken m.heap z in
    let g = alloc m.heap in
    record {
      sized = t.sized;
      capacity_grows = t.capacity_grows;
      used = omega (arith, t.used);
      chunk = t.chunk;
      bytes = omega (arith, ap length t.bytes);
      elements = omega (arith, ap length t.elements);
      labels = labels_longer l g.slot m.labels;
    }

pub end_label_larger : (s : ℕ) (p : Put) → Sized p.making.heap → Larger p.making (end_label s p).making
unfolding put_rules
end_label_larger s p z = larger_cell p.making s _ z

-- ---- the whole

mutual
  unfolding put_rules

  pub put_larger : (d : Datum) (m : Making) → Sized m.heap → Larger m (put d m).making
  put_larger (atom a) m z = put_atom_larger a m z
  put_larger (Datum.pair a d) m z =
      let x = put_larger a m z in
      let xs = larger_on x (in_slot_larger (put a m) x.sized) in
      let y = put_larger d (in_slot (put a m)).making xs.sized in
      let ys = larger_on y (in_slot_larger (put d (in_slot (put a m)).making) y.sized) in
      larger_on xs (larger_on ys (new_cell_larger (in_slot (put d (in_slot (put a m)).making)).making ys.sized _))
  put_larger (Datum.vector ds) m z =
      let b = larger_block m (how_many ds) z in
      let e = put_all_larger ds (block_after m.heap.elements (how_many ds)).place (with_block (how_many ds) m) b.sized in
      larger_on b (larger_on e (new_cell_larger _ e.sized _))
  put_larger (Datum.def l d) m z =
      let b = labelled_larger l m z in
      let e = put_larger d (labelled l (begin_label l m) m) b.sized in
      larger_on b (larger_on e (end_label_larger (begin_label l m).slot (put d (labelled l (begin_label l m) m)) e.sized))

  pub put_all_larger : (ds : Data) (k : ℕ) (m : Making) → Sized m.heap → Larger m (put_all ds k m)
  put_all_larger end k m z = larger_same m z
  put_all_larger (more d ds) k m z =
      let x = put_larger d m z in
      let y = larger_on x (larger_element k (put d m) x.sized) in
      larger_on y (put_all_larger ds (suc k) (store_at k (put d m)) y.sized)
