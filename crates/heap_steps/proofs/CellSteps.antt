-- A new cell: from the heap that can give a slot to the heap that has the cell. Assumes nothing.
use mathlib.Core.Path.{◌≡◌, sym, ap, ◌∙◌, subst, subst₂}
use mathlib.Core.List.{List, [], ◌++◌}
use Prim.Native.Nat.{ℕ, ◌+◌, ◌*◌, ◌≤◌, ◌<◌}
use native.Mathlib.Omega.{arith}
use lib.ListN.{length, get_or}
use Rattle.rules.specs.Cells.{slot, Cell, string, block, Block}
use Rattle.rules.specs.Heap.{Heap, Given, capacity, pop, grow, alloc, with_cell, with_bytes, block_after}
use Rattle.rules.specs.Layout.{words_of, filled, layout_rules}
use Rattle.rules.specs.Put.{making, new_cell, put_rules}
use Rattle.rules.proofs.LentLaws.{words_length, filled_length}
use Rattle.leaf_cells.specs.Cells.{cell_of, Stored}
use Rattle.leaf_rooms.specs.Rooms.{Appended}
use Rattle.leaf_cells.specs.declared.VCell.{VCell}
use Rattle.leaf_cells.specs.declared.Change.{Change}
use Rattle.leaf_cells.proofs.CallLaws.{store_on, append_words, append_bytes, append_place}
use Rattle.leaf_free.specs.FreeList.{ready, CanAlloc, Popped}
use Rattle.leaf_free.proofs.Allocating.{Growing, Room, Next, next, empty, free_or_not, pop_is, alloc_next, alloc_empty, room, can_alloc, alloc_given, alloc_growing, GivenBy, next_below, grow_growing, grow_next}
use Rattle.heap_steps.specs.Steps.{Open, CellMade, TextOpen, Left, StringPut}
use Rattle.heap_steps.proofs.Sizes.{Sized, alloc_taken}

-- ---- the slot given is below the capacity

pop_below : (n : ℕ) (h : Heap) → Growing n h → (t : Next h) → (pop h).slot < capacity (pop h).heap
pop_below n h g t = subst (λ (x : Given). x.slot < capacity x.heap) (sym (pop_is h t)) (next_below n h g t)

pub alloc_below : (n : ℕ) (h : Heap) → Growing n h → Room n h → (alloc h).slot < capacity (alloc h).heap
alloc_below n h g r =
    elim (free_or_not h) [
      | next t ↦ subst (λ (x : Given). x.slot < capacity x.heap) (sym (alloc_next h t)) (pop_below n h g t)
      | empty gone ↦
          subst (λ (x : Given). x.slot < capacity x.heap) (sym (alloc_empty h gone))
          (pop_below n (grow h) (grow_growing n h g gone (r gone)) (grow_next n h g gone (r gone)))
    ]

-- ---- alloc, then store

module _ (n : ℕ) (h : Heap) (words map : List ℕ) (o : Open n h words map) where
  abbrev fits : Room n h
  fits = room n h o.growing o.some

  pub can_alloc_on : CanAlloc words map
  can_alloc_on =
      subst₂ (λ (ws m : List ℕ). CanAlloc ws m) (sym o.words_are) (sym o.map_is) (can_alloc n h o.growing fits)

  pub given_on : (s : ℕ) (ws m : List ℕ) → Popped (ready words) map s ws m → GivenBy n (alloc h) s ws m
  given_on s ws m p = alloc_given n h o.growing fits words map s ws m o.words_are o.map_is p

  -- the slot's row is there
  pub row_on : (s : ℕ) (ws m : List ℕ) → Popped (ready words) map s ws m → 8 * s + 16 ≤ length ws
  row_on s ws m p =
      let g = given_on s ws m p in
      omega (
        arith,
        g.slot_given,
        ap length g.words_given ∙ words_length n (alloc h).heap,
        alloc_below n h o.growing fits,
        (alloc_growing n h o.growing fits).within,
      )

  pub made_on : (s : ℕ) (ws m : List ℕ) (c : VCell) (after : List ℕ) (r : Change) → Popped (ready words) map s ws m → Stored ws after s c r → CellMade n h (cell_of c) s after m
  made_on s ws m c after r p q =
      let g = given_on s ws m p in
      let small : s < capacity (alloc h).heap = omega (arith, g.slot_given, alloc_below n h o.growing fits) in
      record {
        slot_is = g.slot_given;
        words_are =
            store_on n (alloc h).heap ws g.words_given s c after r small (alloc_growing n h o.growing fits).within q
            ∙ ap (λ (x : ℕ). words_of n (with_cell (alloc h).heap x (cell_of c))) g.slot_given;
        map_is = g.map-given;
      }

-- ---- a text, then a cell that shows it

pub sized_of : (n : ℕ) (h : Heap) → Growing n h → Sized h
sized_of n h g =
    record
    { positive = omega (arith, g.chunk_least); whole = g.whole; some = g.some; free_size = g.free_size }

-- more bytes change nothing of the slots
pub growing_bytes : (n : ℕ) (h : Heap) (t : List ℕ) → Growing n h → Growing n (with_bytes h t)
growing_bytes n h t g =
    record {
      slots_small = g.slots_small;
      chunk_least = g.chunk_least;
      chunk_fours = g.chunk_fours;
      chunk_within = g.chunk_within;
      whole = g.whole;
      some = g.some;
      within = g.within;
      map-size = g.map-size;
      free_size = g.free_size;
      free_below = g.free_below;
    }

module _ (n room : ℕ) (h : Heap) (text words map bytes : List ℕ) (o : TextOpen n room h text words map bytes) where
  pub header_on : 8 ≤ length words
  header_on = omega (arith, ap length o.ready.words_are ∙ words_length n h)

  used_word : get_or words 4 0 ≡ length h.bytes
  unfolding layout_rules
  used_word = ap (λ (ws : List ℕ). get_or ws 4 0) o.ready.words_are

  pub text_fits_on : get_or words 4 0 + length text ≤ length bytes
  text_fits_on =
      omega (
        arith,
        used_word,
        o.fits,
        ap length o.bytes_are ∙ filled_length room h.bytes (omega (arith, o.fits)),
      )

  module _ (ws bs : List ℕ) (place : ℕ) (a : Appended words ws bytes bs text place) where
    pub open_after : Open n (with_bytes h text) ws map
    open_after =
        record {
          growing = growing_bytes n h text o.ready.growing;
          some = o.ready.some;
          words_are = append_words n h words o.ready.words_are bytes text ws bs place a;
          map_is = o.ready.map_is;
        }

    pub bytes_after : bs ≡ filled room (h.bytes ++ text)
    bytes_after =
        append_bytes n h words o.ready.words_are room text ws bs place o.fits
        (subst (λ (b : List ℕ). Appended words ws b bs text place) o.bytes_are a)

    pub place_after : place ≡ (block_after h.bytes (length text)).place
    place_after = append_place n h words o.ready.words_are bytes text ws bs place a

    -- the bytes are those of the heap after the cell, too
    after_bytes : (alloc (with_bytes h text)).heap.bytes ≡ h.bytes ++ text
    after_bytes = (alloc_taken (with_bytes h text) (sized_of n (with_bytes h text) (growing_bytes n h text o.ready.growing))).bytes

    -- a cell that shows the text
    pub shows_text : (make : Block → Cell) (s : ℕ) (after m : List ℕ) → CellMade n (with_bytes h text) (make (block place (length text))) s after m → Left n room (new_cell (make (block_after h.bytes (length text))) (making (with_bytes h text) [])).making.heap after m bs
    unfolding put_rules
    shows_text make s after m c =
        record {
          words_are =
              c.words_are
              ∙ ap (λ (p : ℕ). words_of n (with_cell (alloc (with_bytes h text)).heap (alloc (with_bytes h text)).slot (make (block p (length text))))) place_after;
          map_is = c.map_is;
          bytes_are = bytes_after ∙ ap (filled room) (sym after_bytes);
        }

    pub string_put : (s : ℕ) (after m : List ℕ) → CellMade n (with_bytes h text) (string (block place (length text))) s after m → StringPut n room h text s after m bs
    unfolding put_rules
    string_put s after m c = record { value_is = ap slot c.slot_is; left = shows_text string s after m c }
