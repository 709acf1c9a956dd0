-- What each call answers, by what its tests find. Assumes nothing.
use mathlib.Core.Path.{◌≡◌, refl, sym, ap, ◌∙◌}
use mathlib.Core.Bool.{Bool, true, false}
use mathlib.Core.List.{List, []}
use mathlib.Core.Option.{none, some}
use Prim.Native.Nat.{ℕ, ◌+◌, ◌*◌, ◌/◌, ◌≤◌, ◌<◌}
use native.Mathlib.Omega.{arith}
use borrow.Author.Tests.{ltb-true, leb-true}
use lib.Dec.{leb, ltb}
use lib.ListN.{length, get_or, take}
use Rattle.laws.specs.Basics.{choose, every}
use Rattle.laws.proofs.Tests.{both_left}
use Rattle.laws.proofs.Pointwise.{every_all}
use Rattle.rules.specs.Refusals.{Answer, accepted, refused, Refusal, bad_setup, unsound, no_such_slot, wrong_cell, told, refusals}
use Rattle.rules.specs.Map.{set_low_bits, is_allocated}
use Rattle.rules.specs.Cells.{undefined, Block, Cell, plain, pair, symbol, string, vector}
use Rattle.rules.specs.Heap.{Heap, capacity, cell_at, in_use, part_of, text_of, free_count, used_count, used_by_map, fresh}
use Rattle.rules.specs.Layout.{Lent, rooms_of, map_bytes, heap_of, lent_of, layout_rules}
use Rattle.rules.specs.Sound.{setup_numbers, text_block, lies_in, blocks_sound, sound}
use Rattle.rules.specs.Calls.{setup, text_in, text_call, text_part, text_told, of_answer, count_call, capacity_call, free_call, used_call}
use Rattle.rules.proofs.SoundLaws.{clauses, bounds, lists_again, used_counts_agree}
use Rattle.leaf_cells.specs.Cells.{cell_of, looked_up}
use Rattle.leaf_cells.specs.declared.VCell.{VCell}
use Rattle.leaf_cells.specs.declared.VCell.TheVariants as cell
use Rattle.leaf_cells.proofs.HeapLaws.{looked_up_is, text_is}
use Rattle.heap_sound_rows.proofs.HeapFacts.{cells_length, free_length, bytes_length}
use Rattle.std.specs.Prelude.{Result, Ok}
use Rattle.refusals.specs.declared.Refusal as code
use Rattle.refusals.specs.Told.{answer_of}
use Rattle.doors.specs.Answers.{set_up, Used}

-- ---- setup

module _ (chunk : ℕ) (l : Lent) where
  pub setup_no : setup_numbers chunk l ≡ false → set_up (refused bad_setup) l ≡ setup chunk l
  unfolding setup
  setup_no e = rw (e, setup)

  pub setup_yes : setup_numbers chunk l ≡ true → (after : Lent) → after ≡ lent_of (rooms_of l) (fresh chunk) → set_up (accepted tt) after ≡ setup chunk l
  unfolding setup
  setup_yes e after p = ap (set_up (accepted tt)) p ∙ rw (e, setup)

-- ---- what is known of sound lists

pub record Known (l : Lent) : Type 0 where
  pub header : 8 ≤ length l.words
  pub rows : 8 * get_or l.words 1 0 + 8 ≤ length l.words
  pub states : get_or l.words 1 0 / 4 ≤ length l.map
  pub few : get_or l.words 1 0 ≤ 4096

pub known : (l : Lent) → sound l ≡ true → Known l
unfolding layout_rules
known l e =
    let b = bounds l (clauses l e) in
    record {
      header = omega (arith, b.words);
      rows = omega (arith, b.words, b.capacity);
      states = omega (arith, b.map, b.capacity);
      few = omega (arith, b.capacity, b.most);
    }

-- ---- the counts

module _ (f : Heap → ℕ) (l : Lent) where
  pub count_unsound : sound l ≡ false → refused unsound ≡ count_call f l
  unfolding count_call refusals
  count_unsound e = rw e

  pub count_sound : sound l ≡ true → (n : ℕ) → n ≡ f (heap_of l) → accepted n ≡ count_call f l
  unfolding count_call refusals
  count_sound e n p = rw e (ap accepted p)

module _ (l : Lent) where
  pub capacity_is : sound l ≡ true → accepted (get_or l.words 1 0) ≡ capacity_call l
  unfolding capacity_call
  capacity_is e = count_sound capacity l e (get_or l.words 1 0) (sym (cells_length l))

  pub free_is : sound l ≡ true → accepted (get_or l.words 2 0) ≡ free_call l
  unfolding free_call
  free_is e = count_sound free_count l e (get_or l.words 2 0) (sym (free_length l))

  pub used_unsound : sound l ≡ false → (r : Result ℕ code.Refusal) → answer_of r ≡ refused unsound → Used l r
  unfolding used_call
  used_unsound e r told = record { by_list = told ∙ count_unsound used_count l e; by_map = told ∙ count_unsound used_by_map l e }

  pub used_is : sound l ≡ true → (n : ℕ) → n ≡ set_low_bits (take (get_or l.words 1 0 / 4) l.map) → Used l (Ok n)
  unfolding used_call layout_rules
  used_is e n p =
      record {
        by_list = count_sound used_count l e n (p ∙ used_counts_agree l e);
        by_map = count_sound used_by_map l e n p;
      }

-- what is held of lists holds of the same ones
pub used_for : (l l' : Lent) (r : Result ℕ code.Refusal) → l ≡ l' → Used l r → Used l' r
used_for l l' r e u = record { by_list = u.by_list ∙ ap used_call e; by_map = u.by_map ∙ ap (count_call used_by_map) e }

-- ---- texts

-- a cell that is neither a symbol nor a string holds no text
pub not_text : (x : VCell) → ((p n : ℕ) → x ≡ cell.Symbol p n → ⊥) → ((p n : ℕ) → x ≡ cell.String p n → ⊥) → refused wrong_cell ≡ text_in (cell_of x)
unfolding text_in
not_text cell.Undefined y z = refl
not_text cell.Nil y z = refl
not_text cell.Eof y z = refl
not_text cell.Void y z = refl
not_text (cell.Bool b) y z = refl
not_text (cell.Char n) y z = refl
not_text (cell.Number n) y z = refl
not_text (cell.Pair a d) y z = refl
not_text (cell.Symbol p n) y z = absurd (y p n refl)
not_text (cell.String p n) y z = absurd (z p n refl)
not_text (cell.Vector p n) y z = refl

module _ (l : Lent) (s : ℕ) where
  abbrev h : Heap
  h = heap_of l

  -- what the code looks up is the cell of a slot in use
  looked_up_lent : sound l ≡ true → looked_up l.words l.map s ≡ choose (in_use h s) (some (cell_at h s)) none
  unfolding layout_rules
  looked_up_lent e =
      let again = lists_again l (clauses l e) in
      let b = bounds l (clauses l e) in
      ap (λ (x : Lent). looked_up x.words x.map s) (sym again)
      ∙ looked_up_is (rooms_of l).slots (map_bytes (rooms_of l).slots) h s (omega (arith, cells_length l, b.capacity))

  pub text_unsound : sound l ≡ false → refused unsound ≡ text_call l s
  unfolding text_call refusals
  text_unsound e = rw e

  pub text_free : sound l ≡ true → none ≡ looked_up l.words l.map s → refused no_such_slot ≡ text_call l s
  unfolding text_call refusals
  text_free e p = go (in_use h s) refl (p ∙ looked_up_lent e)
    where
      go : (b : Bool) → in_use h s ≡ b → none ≡ choose b (some (cell_at h s)) none → refused no_such_slot ≡ text_call l s
      go true q r = absurd (let z : ◌≡◌ {A = ℕ} 0 1 = cc in omega arith)
      go false q r = rw (e, q)

  pub text_found : sound l ≡ true → (c : Cell) → some c ≡ looked_up l.words l.map s → (a : Answer Block) → a ≡ text_in c → a ≡ text_call l s
  unfolding text_call refusals
  text_found e c p a is = go (in_use h s) refl (p ∙ looked_up_lent e)
    where
      go : (b : Bool) → in_use h s ≡ b → some c ≡ choose b (some (cell_at h s)) none → a ≡ text_call l s
      go true q r = let same : c ≡ cell_at h s = cc in is ∙ ap text_in same ∙ rw (e, q)
      go false q r = absurd (let z : ◌≡◌ {A = ℕ} 0 1 = cc in omega arith)

  -- a text that is held: the lists are sound, and the slot's cell shows its block
  pub record Held (b : Block) : Type 0 where
    pub is_sound : sound l ≡ true
    pub small : s < capacity h
    pub shows : text_block (cell_at h s) ≡ b

  shown : (c : Cell) (b : Block) → accepted b ≡ text_in c → text_block c ≡ b
  unfolding text_in text_block
  shown (plain x) b e = absurd (let z : ◌≡◌ {A = ℕ} 0 1 = cc in omega arith)
  shown (pair x y) b e = absurd (let z : ◌≡◌ {A = ℕ} 0 1 = cc in omega arith)
  shown (symbol x) b e = cc
  shown (string x) b e = cc
  shown (vector x) b e = absurd (let z : ◌≡◌ {A = ℕ} 0 1 = cc in omega arith)

  held : (b : Block) → accepted b ≡ text_call l s → Held b
  unfolding text_call refusals
  held b e = go (sound l) refl (in_use h s) refl
    where
      go : (x : Bool) → sound l ≡ x → (y : Bool) → in_use h s ≡ y → Held b
      go false p y q = absurd (let r = e ∙ sym (text_unsound p) in let z : ◌≡◌ {A = ℕ} 0 1 = cc in omega arith)
      go true p false q = absurd (let r : accepted b ≡ refused no_such_slot = e ∙ rw (p, q) in let z : ◌≡◌ {A = ℕ} 0 1 = cc in omega arith)
      go true p true q =
          record {
            is_sound = p;
            small = ltb-true s (capacity h) (both_left (ltb s (capacity h)) (is_allocated h.map s) q);
            shows = shown (cell_at h s) b (e ∙ rw (p, q));
          }

  within : (b : Block) → Held b → b.place + b.size ≤ length h.bytes
  unfolding lies_in blocks_sound
  within b t =
      let c = clauses l t.is_sound in
      let lies = every_all (λ c. lies_in (length h.bytes) (text_block c)) (plain undefined) h.cells (both_left (every (λ c. lies_in (length h.bytes) (text_block c)) h.cells) _ c.texts) s t.small in
      leb-true (b.place + b.size) (length h.bytes)
      (both_left (leb (b.place + b.size) (length h.bytes)) _ (ap (lies_in (length h.bytes)) (sym t.shows) ∙ lies))

  abbrev part_by : Answer Block → List ℕ
  part_by a = of_answer a (λ b. text_of h b) (λ r. [])

  -- "empty where refused"
  part_empty : (r : Refusal) → refused r ≡ text_call l s → [] ≡ text_part l s
  unfolding text_part of_answer
  part_empty r e = ap part_by e

  pub part_refused : (r : Refusal) → refused r ≡ text_call l s → [] ≡ text_part l s
  part_refused r e = part_empty r e

  -- the part that holds it is in the lent bytes
  pub part_fits : (b : Block) → accepted b ≡ text_call l s → b.place + b.size ≤ length l.bytes
  unfolding layout_rules
  part_fits b e =
      let t = held b e in
      let room = (bounds l (clauses l t.is_sound)).bytes in
      omega (arith, within b t, bytes_length l room, room)

  pub part_held : (b : Block) → accepted b ≡ text_call l s → part_of l.bytes b ≡ text_part l s
  unfolding text_part of_answer layout_rules
  part_held b e =
      let t = held b e in
      ap (λ (x : Lent). part_of x.bytes b) (sym (lists_again l (clauses l t.is_sound)))
      ∙ text_is (length l.bytes) h b (within b t) ∙ ap part_by e

  -- a block's answer, told
  pub told_as : (a : Answer (Unit {0})) (x : Answer Block) → x ≡ text_call l s → told a ≡ told x → told a ≡ text_told l s
  unfolding text_told
  told_as a x e t = t ∙ ap told e
