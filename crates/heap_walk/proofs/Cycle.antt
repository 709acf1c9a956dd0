-- The walk in the lent lists, part by part: what each call is given and what it has done. Document 01, "Reading back": "Walk car
-- before cdr, elements in order, each pair or vector once." Assumes nothing.
use mathlib.Core.Path.{◌≡◌, refl, sym, ap, ◌∙◌, subst}
use mathlib.Core.Bool.{true, false}
use mathlib.Core.List.{List, [], ◌∷◌}
use Prim.Native.Nat.{ℕ, suc, ◌+◌, ◌-◌, ◌*◌, ◌≤◌, ◌<◌}
use native.Mathlib.Omega.{arith}
use borrow.Author.Tests.{leb-true}
use lib.Dec.{leb}
use lib.ListN.{length, get_or, set, drop, length-set, length-append}
use lib.Seq.{drop-cons}
use Rattle.laws.specs.Basics.{both, join, zeros, basics}
use Rattle.laws.proofs.Tests.{both_left, both_right}
use Rattle.laws.proofs.Pointwise.{every_all, get_d_part, length_part}
use Rattle.laws.proofs.Members.{first_member}
use Rattle.rules.specs.Cells.{undefined, slot, scalar, block, Cell, pair, vector}
use Rattle.rules.specs.Cells as cells
use Rattle.rules.specs.Heap.{Heap, capacity, cell_at, in_use, elements_of}
use Rattle.rules.specs.Layout.{Rooms, value_words, layout_rules}
use Rattle.rules.specs.Sound.{value_named, sound_rules}
use Rattle.rules.specs.Calls.{call_rules}
use Rattle.rules.specs.Read.{Walk, meet, enter, in_order, walk, labels_for, read_rules}
use Rattle.rules.proofs.LentLaws.{words_length, elements_length}
use Rattle.rules.proofs.Good.{CellGood, element_at, used_slot}
use Rattle.leaf_cells.specs.Cells.{cell_of, loaded}
use Rattle.leaf_cells.specs.Elements.{value_of, loaded_element}
use Rattle.leaf_cells.specs.declared.VCell.{VCell}
use Rattle.leaf_cells.specs.declared.VCell.TheVariants as code_cell
use Rattle.leaf_cells.specs.declared.Value.{Value}
use Rattle.leaf_cells.specs.declared.Value.TheVariants as code_value
use Rattle.leaf_cells.proofs.HeapLaws.{loaded_is, loaded_element_is}
use Rattle.heap_walk.specs.Walks.{has_parts, walk_parts, fresh_walk, whole_walk}
use Rattle.heap_walk.specs.Marks.{mark, label_word, state_word, Marked, MetAgain}
use Rattle.heap_walk.specs.Tasks.{Stands, Job, Ready, Task, Done, PartsTask, PartsDone, ElementsTask, ElementsDone, ElementTask, ElementDone, LabelTask, LabelDone}
use Rattle.heap_walk.proofs.WalkLaws.{walk_into, walk_off, walk_scalar, no_parts_walk, enter_new, Onward, kept_after, kept_meet, labels_few, elements_named, walk_onward, walked_parts}
use Rattle.heap_walk.proofs.MarkLaws.{Fresh, fresh, entered, again, left, on_path}

-- the same heap and path, further on
abbrev pub further : Job → Walk → Job
further j w = record { rooms = j.rooms; heap = j.heap; path = j.path; so_far = w }

-- ---- what the lists hold

module _ (r : Rooms) (h : Heap) (words elems : List ℕ) (t : Stands r h words elems) where
  pub row_there : (s : ℕ) → s < capacity h → 8 * s + 16 ≤ length words
  row_there s small = omega (arith, t.slots, ap length t.words_are ∙ words_length r.slots h)

  pub cell_there : (s : ℕ) → s < capacity h → loaded words s ≡ cell_at h s
  cell_there s small =
      ap (λ (l : List ℕ). loaded l s) t.words_are ∙ loaded_is r.slots h s (omega (arith, t.slots))

  pub elems_length : 3 * length h.elements ≤ length elems
  unfolding layout_rules
  elems_length =
      let l = join value_words h.elements in
      omega (
        arith,
        ap length t.elems_are ∙ length-append l (zeros (3 * r.elements - length l)),
        elements_length h.elements,
      )

  pub element_row : (k : ℕ) → k < length h.elements → 3 * k + 3 ≤ length elems
  element_row k small = omega (arith, elems_length)

  pub element_there : (k : ℕ) → k < length h.elements → loaded_element elems k ≡ element_at h k
  element_there k small =
      ap (λ (l : List ℕ). loaded_element l k) t.elems_are ∙ loaded_element_is r.elements h.elements k small

-- a part of the walk that went on leaves what the next one wants
pub ready_on : (j : Job) (known : ℕ) (words elems marks : List ℕ) → Ready j known words elems marks → (w : Walk) → Onward j.heap j.so_far w → (r : ℕ) (after : List ℕ) → Marked j.path w r after → length after ≡ length marks → Ready (further j w) r words elems after
ready_on j known words elems marks t w o r after m size =
    record {
      stands = t.stands;
      kept = kept_after j.heap t.kept o;
      marked = m;
      room = omega (arith, t.room, size);
    }

-- ---- a slot

module _ (j : Job) (s n known : ℕ) (words elems marks : List ℕ) (t : Task j s n known words elems marks) where
  abbrev h : Heap
  h = j.heap

  below : s < capacity h
  below = (used_slot h s t.used).below

  pub slot_row : 8 * s + 16 ≤ length words
  slot_row = row_there j.rooms h words elems t.ready.stands s below

  pub slot_mark : s < length marks
  slot_mark = omega (arith, below, t.ready.room)

  pub few : known ≤ 4096
  few =
      omega (
        arith,
        t.ready.marked.count_is,
        labels_few h j.so_far t.ready.kept,
        t.ready.stands.slots,
        t.ready.stands.most,
      )

  parts_are : has_parts (loaded words s) ≡ has_parts (cell_at h s)
  parts_are = ap has_parts (cell_there j.rooms h words elems t.ready.stands s below)

  pub walk_ended : n ≡ 0 → Done j s n known marks
  unfolding read_rules
  walk_ended e =
      record {
        marked = subst (λ (k : ℕ). Marked j.path (walk k h j.path (slot s) j.so_far) known marks) (sym e) t.ready.marked;
      }

  pub walk_nowhere : false ≡ has_parts (loaded words s) → Done j s n known marks
  walk_nowhere e =
      record {
        marked =
            subst (λ (w : Walk). Marked j.path w known marks)
            (sym (walk_off n h j.path s j.so_far (sym (e ∙ parts_are)))) t.ready.marked;
      }

  module _ (some : n ≡ 0 → ⊥) (parts : true ≡ has_parts (loaded words s)) where
    stepped : walk n h j.path (slot s) j.so_far ≡ enter j.path s (walk_parts (n - 1) h (s ∷ j.path) (cell_at h s)) j.so_far
    stepped =
        let e : n ≡ suc (n - 1) = omega arith in
        ap (λ (k : ℕ). walk k h j.path (slot s) j.so_far) e ∙ walk_into (n - 1) h j.path s j.so_far (sym (parts ∙ parts_are))

    pub walk_again : (get_or marks s 0 ≡ 0 → ⊥) → (r : ℕ) (after : List ℕ) → MetAgain marks known s after r → Done j s n r after
    walk_again seen r after m =
        record {
          marked =
              subst (λ (w : Walk). Marked j.path w r after) (sym stepped)
              (again h j.path j.so_far t.ready.kept s known marks t.ready.marked slot_mark (walk_parts (n - 1) h (s ∷ j.path) (cell_at h s)) after r seen m);
        }

    module _ (new : get_or marks s 0 ≡ 0) where
      is_fresh : Fresh j.path j.so_far s
      is_fresh = fresh j.path j.so_far s (sym (t.ready.marked.marks_are s) ∙ new)

      abbrev pub inner : Job
      inner = record { rooms = j.rooms; heap = h; path = s ∷ j.path; so_far = meet s j.so_far }

      pub parts_task : PartsTask inner s (n - 1) known words elems (set marks s 2)
      parts_task =
          record {
            ready =
                record {
                  stands = t.ready.stands;
                  kept = kept_meet h j.path s j.so_far t.ready.kept below;
                  marked = entered h j.path j.so_far t.ready.kept s known marks t.ready.marked slot_mark is_fresh;
                  room = omega (arith, t.ready.room, length-set marks s 2);
                };
            used = t.used;
          }

      module _ (r : ℕ) (after : List ℕ) (d : PartsDone inner s (n - 1) r after) where
        pub mark_low : 1 ≤ get_or after s 0
        mark_low = omega (arith, on_path j.path (walk_parts (n - 1) h (s ∷ j.path) (cell_at h s) (meet s j.so_far)) s r after d.marked)

        pub walk_through : length after ≡ length (set marks s 2) → Done j s n r (set after s (get_or after s 0 - 1))
        walk_through size =
            let w = meet s j.so_far in
            let w' = walk_parts (n - 1) h (s ∷ j.path) (cell_at h s) w in
            let o = walked_parts h t.ready.stands.good (n - 1) (s ∷ j.path) s w (kept_meet h j.path s j.so_far t.ready.kept below) in
            record {
              marked =
                  subst (λ (x : Walk). Marked j.path x r (set after s (get_or after s 0 - 1)))
                  (sym (stepped ∙ enter_new j.path s (walk_parts (n - 1) h (s ∷ j.path) (cell_at h s)) j.so_far is_fresh.off_path is_fresh.not_met))
                  (left j.path w' s r after d.marked (omega (arith, slot_mark, size, length-set marks s 2)) is_fresh.off_path
                  (o.met_kept s (first_member s j.so_far.met)));
            }

-- ---- what a cell holds

module _ (j : Job) (s n known : ℕ) (words elems marks : List ℕ) (t : PartsTask j s n known words elems marks) where
  small : s < capacity j.heap
  small = (used_slot j.heap s t.used).below

  pub parts_row : 8 * s + 16 ≤ length words
  parts_row = row_there j.rooms j.heap words elems t.ready.stands s small

  -- the cell that the code has loaded
  shown : (v x : VCell) → cell_of v ≡ loaded words s → v ≡ x → cell_at j.heap s ≡ cell_of x
  shown v x e is = sym (cell_there j.rooms j.heap words elems t.ready.stands s small) ∙ sym e ∙ ap cell_of is

  good_cell : (c : Cell) → cell_at j.heap s ≡ c → CellGood j.heap c
  good_cell c e = subst (λ (x : Cell). CellGood j.heap x) e (t.ready.stands.good.cells s)

  abbrev onto : (c : Cell) (r : ℕ) (after : List ℕ) → Type 0
  onto c r after = Marked j.path (walk_parts n j.heap j.path c j.so_far) r after

  parts_as : (c : Cell) → cell_at j.heap s ≡ c → (r : ℕ) (after : List ℕ) → onto c r after → PartsDone j s n r after
  parts_as c e r after m = record { marked = subst (λ (x : Cell). onto x r after) (sym e) m }

  module _ (v : VCell) (l : cell_of v ≡ loaded words s) where
    module _ (a d : ℕ) (is : v ≡ code_cell.Pair a d) where
      linked : both (in_use j.heap a) (in_use j.heap d) ≡ true
      unfolding call_rules
      linked = (good_cell (pair a d) (shown v (code_cell.Pair a d) l is)).linked

      pub car_task : Task j a n known words elems marks
      car_task = record { ready = t.ready; used = both_left (in_use j.heap a) _ linked }

      abbrev pub after_car : Job
      after_car = further j (walk n j.heap j.path (slot a) j.so_far)

      pub cdr_task : (r : ℕ) (after : List ℕ) → Done j a n r after → length after ≡ length marks → Task after_car d n r words elems after
      unfolding sound_rules
      cdr_task r after o size =
          record {
            ready =
                ready_on j known words elems marks t.ready (walk n j.heap j.path (slot a) j.so_far)
                (walk_onward j.heap t.ready.stands.good n j.path (slot a) j.so_far (both_left (in_use j.heap a) _ linked) t.ready.kept)
                r after o.marked size;
            used = both_right (in_use j.heap a) _ linked;
          }

      pub pair_done : (r : ℕ) (after : List ℕ) → Done after_car d n r after → PartsDone j s n r after
      unfolding walk_parts
      pair_done r after o = parts_as (pair a d) (shown v (code_cell.Pair a d) l is) r after o.marked

    module _ (p k : ℕ) (is : v ≡ code_cell.Vector p k) where
      good_vector : CellGood j.heap (vector (block p k))
      good_vector = good_cell (vector (block p k)) (shown v (code_cell.Vector p k) l is)

      pub elements_task : ElementsTask j p k n known words elems marks
      unfolding sound_rules
      elements_task =
          record {
            ready = t.ready;
            inside = leb-true (p + k) (length j.heap.elements) (both_left (leb (p + k) (length j.heap.elements)) _ good_vector.vector_in);
            named = elements_named j.heap (block p k) good_vector;
          }

      pub vector_done : (r : ℕ) (after : List ℕ) → ElementsDone j p k n r after → PartsDone j s n r after
      unfolding walk_parts
      vector_done r after o = parts_as (vector (block p k)) (shown v (code_cell.Vector p k) l is) r after o.marked

    pub parts_none : has_parts (cell_of v) ≡ false → PartsDone j s n known marks
    parts_none e = parts_as (cell_of v) (shown v v l refl) known marks (go (cell_of v) e)
      where
        go : (c : Cell) → has_parts c ≡ false → onto c known marks
        go c e = subst (λ (w : Walk). Marked j.path w known marks) (sym (no_parts_walk n j.heap j.path c j.so_far e)) t.ready.marked

-- ---- a vector's elements

module _ (j : Job) (place n left known₀ : ℕ) (words elems marks₀ : List ℕ) where
  abbrev one : cells.Value → Walk → Walk
  one v w = walk left j.heap j.path v w

  abbrev all : List cells.Value
  all = elements_of j.heap (block place n)

  -- the elements so far are walked, and what is left makes the whole
  pub record Going (known i : ℕ) (marks : List ℕ) : Type 0 where
    pub walked : Walk
    pub ready : Ready (further j walked) known words elems marks
    pub whole : in_order one (drop i all) walked ≡ in_order one all j.so_far
    pub inside : i ≤ n

  module _ (t : ElementsTask j place n left known₀ words elems marks₀) where
    size : length all ≡ n
    size = length_part j.heap.elements place n t.inside

    pub going_start : Going known₀ 0 marks₀
    going_start = record { walked = j.so_far; ready = t.ready; whole = refl; inside = omega arith }

    pub going_place : place + n ≤ length elems
    going_place = omega (arith, t.inside, elems_length j.rooms j.heap words elems t.ready.stands)

    module _ (known i : ℕ) (marks : List ℕ) (g : Going known i marks) where
      pub going_ends : n ≤ i → ElementsDone j place n left known marks
      unfolding in_order
      going_ends e =
          record {
            marked =
                subst (λ (w : Walk). Marked j.path w known marks)
                (ap (λ (l : List cells.Value). in_order one l g.walked) (sym (lib.ListN.drop_of_length-le all {i = i} (omega (arith, size)))) ∙ g.whole)
                g.ready.marked;
          }

      module _ (low : i < n) where
        abbrev here : cells.Value
        here = element_at j.heap (place + i)

        named_here : value_named j.heap here ≡ true
        named_here =
            ap (value_named j.heap) (sym (get_d_part j.heap.elements place n i (scalar undefined) low))
            ∙ every_all (value_named j.heap) (scalar undefined) all t.named i (omega (arith, size))

        pub element_task : ElementTask (further j g.walked) (place + i) left known words elems marks
        element_task = record { ready = g.ready; inside = omega (arith, t.inside, low); named = named_here }

        pub going_on : (r : ℕ) (after : List ℕ) → ElementDone (further j g.walked) (place + i) left r after → length after ≡ length marks → Going r (i + 1) after
        unfolding in_order
        going_on r after d same =
            record {
              walked = one here g.walked;
              ready =
                  ready_on (further j g.walked) known words elems marks g.ready (one here g.walked)
                  (walk_onward j.heap t.ready.stands.good left j.path here g.walked named_here g.ready.kept)
                  r after d.marked same;
              whole =
                  ap (λ (k : ℕ). in_order one (drop k all) (one here g.walked)) (native.Mathlib.Numerals.add-one i)
                  ∙ sym
                  (ap (λ (l : List cells.Value). in_order one l g.walked)
                  (drop-cons all i (scalar undefined) (omega (arith, size))
                  ∙ ap (λ (v : cells.Value). v ∷ drop (suc i) all) (get_d_part j.heap.elements place n i (scalar undefined) low)))
                  ∙ g.whole;
              inside = omega (arith, low);
            }

-- ---- one element

module _ (j : Job) (place left known : ℕ) (words elems marks : List ℕ) (t : ElementTask j place left known words elems marks) where
  pub element_here : 3 * place + 3 ≤ length elems
  element_here = element_row j.rooms j.heap words elems t.ready.stands place t.inside

  module _ (v : Value) (l : value_of v ≡ loaded_element elems place) where
    is_value : value_of v ≡ element_at j.heap place
    is_value = l ∙ element_there j.rooms j.heap words elems t.ready.stands place t.inside

    pub element_slot : (s : ℕ) → v ≡ code_value.Slot s → Task j s left known words elems marks
    unfolding sound_rules
    element_slot s is =
        record { ready = t.ready; used = ap (value_named j.heap) (sym (ap value_of is) ∙ is_value) ∙ t.named }

    pub element_walked : (s : ℕ) → v ≡ code_value.Slot s → (r : ℕ) (after : List ℕ) → Done j s left r after → ElementDone j place left r after
    element_walked s is r after d =
        record {
          marked =
              subst (λ (x : cells.Value). Marked j.path (walk left j.heap j.path x j.so_far) r after)
              (sym (ap value_of is) ∙ is_value) d.marked;
        }

    pub element_scalar : (x : cells.Scalar) → value_of v ≡ scalar x → ElementDone j place left known marks
    element_scalar x e =
        record {
          marked =
              subst (λ (w : Walk). Marked j.path w known marks)
              (sym (ap (λ (y : cells.Value). walk left j.heap j.path y j.so_far) (sym is_value ∙ e) ∙ walk_scalar left j.heap j.path x j.so_far))
              t.ready.marked;
        }

-- ---- the whole

module _ (r : Rooms) (h : Heap) (v : cells.Value) (words elems marks : List ℕ) (t : LabelTask r h v words elems marks) where
  abbrev first : Job
  first = record { rooms = r; heap = h; path = []; so_far = fresh_walk }

  pub capacity_word : get_or words 1 0 ≡ capacity h
  unfolding layout_rules
  capacity_word = ap (λ (l : List ℕ). get_or l 1 0) t.stands.words_are

  pub capacity_most : get_or words 1 0 ≤ 4096
  capacity_most = omega (arith, capacity_word, t.stands.slots, t.stands.most)

  pub some_words : 1 < length words
  some_words = omega (arith, ap length t.stands.words_are ∙ words_length r.slots h)

  blank : Marked [] fresh_walk 0 marks
  unfolding mark state_word label_word basics
  blank = record { marks_are = λ s. t.blank s; count_is = refl }

  pub first_task : (s : ℕ) → slot s ≡ v → Task first s (get_or words 1 0 + 1) 0 words elems marks
  unfolding sound_rules basics
  first_task s e =
      record {
        ready =
            record {
              stands = t.stands;
              kept =
                  record {
                    path_met = λ s e. e;
                    labels_met = λ s e. e;
                    below = refl;
                    once = λ s. omega arith;
                  };
              marked = blank;
              room = t.room;
            };
        used = ap (value_named h) e ∙ t.named;
      }

  pub first_done : (s : ℕ) → slot s ≡ v → (known : ℕ) (after : List ℕ) → Done first s (get_or words 1 0 + 1) known after → LabelDone h v known after
  unfolding whole_walk labels_for
  first_done s e known after d =
      let same : get_or words 1 0 + 1 ≡ suc (capacity h) = omega (arith, capacity_word) in
      let m : Marked [] (walk (suc (capacity h)) h [] v fresh_walk) known after =
      subst (λ (x : cells.Value). Marked [] (walk (suc (capacity h)) h [] x fresh_walk) known after) e
      (subst (λ (n : ℕ). Marked [] (walk n h [] (slot s) fresh_walk) known after) same d.marked)
      in
      record { count_is = m.count_is; marks_are = m.marks_are }

  pub scalar_done : (x : cells.Scalar) → v ≡ scalar x → LabelDone h v 0 marks
  unfolding whole_walk labels_for
  scalar_done x e =
      let m : Marked [] (walk (suc (capacity h)) h [] v fresh_walk) 0 marks =
      subst (λ (w : Walk). Marked [] w 0 marks)
      (sym (ap (λ (y : cells.Value). walk (suc (capacity h)) h [] y fresh_walk) e ∙ walk_scalar (suc (capacity h)) h [] x fresh_walk)) blank
      in
      record { count_is = m.count_is; marks_are = m.marks_are }
