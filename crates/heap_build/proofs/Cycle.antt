-- The build in the lent lists, part by part: what each call is given and what it has done. Document 01, "Reading back".
-- Assumes nothing.
use mathlib.Core.Path.{◌≡◌, refl, sym, ap, ◌∙◌, subst}
use mathlib.Core.Bool.{true}
use mathlib.Core.List.{List, ◌∷◌}
use mathlib.Core.Option.{Option, some}
use Rattle.std.specs.Prelude as code
use Rattle.std.specs.Prelude.{Some, None}
use Prim.Native.Nat.{ℕ, suc, ◌+◌, ◌-◌, ◌*◌, ◌/◌, ◌%◌, ◌≤◌, ◌<◌}
use native.Mathlib.Omega.{arith}
use borrow.Author.Tests.{leb-true}
use lib.Dec.{leb}
use lib.ListN.{length, get_or, set, drop, length-set, length-append}
use lib.Seq.{drop-cons}
use Rattle.laws.specs.Basics.{both, little, basics}
use Rattle.laws.proofs.Tests.{both_left, both_right}
use Rattle.laws.proofs.Bytes.{length-little}
use Rattle.laws.proofs.Pointwise.{every_all, get_d_part, length_part}
use Rattle.rules.specs.Numbers.{most_name, most_string}
use Rattle.rules.specs.Cells.{Scalar, undefined, slot, scalar, Block, block, Cell, plain, pair, symbol, string, vector}
use Rattle.rules.specs.Cells as cells
use Rattle.rules.specs.Nodes.{Atom, Node, write_node, write_text, write_scalar, nodes_rules}
use Rattle.rules.specs.Heap.{capacity, cell_at, in_use, part_of, text_of, elements_of}
use Rattle.rules.specs.Layout.{scalar_words, cell_words, value_words, layout_rules}
use Rattle.rules.specs.Sound.{value_named, text_block, lies_in, sound_rules}
use Rattle.rules.specs.Calls.{call_rules}
use Rattle.rules.specs.Read.{place_in}
use Rattle.rules.proofs.Good.{CellGood, element_at, used_slot}
use Rattle.leaf_cells.specs.Words.{three}
use Rattle.leaf_cells.specs.Cells.{cell_of, loaded}
use Rattle.leaf_cells.specs.Elements.{value_of, loaded_element}
use Rattle.leaf_cells.specs.declared.VCell.{VCell}
use Rattle.leaf_cells.specs.declared.VCell.TheVariants as code_cell
use Rattle.leaf_cells.specs.declared.Value.{Value}
use Rattle.leaf_cells.specs.declared.Value.TheVariants as code_value
use Rattle.leaf_cells.specs.declared.Words.{Words}
use Rattle.leaf_cells.proofs.HeapLaws.{text_is}
use Rattle.leaf_write.specs.declared.Page.{Page}
use Rattle.leaf_write.specs.Pages.{Noted}
use Rattle.leaf_write.proofs.WriteLaws.{noted_as}
use Rattle.heap_walk.proofs.WalkLaws.{elements_named}
use Rattle.heap_walk.proofs.Cycle.{row_there, cell_there, elems_length, element_row, element_there}
use Rattle.heap_build.specs.Drafts.{Draft, note, and_next, begin, draft_all, draft_pair, draft_vector, draft_cell, draft_slot, draft}
use Rattle.heap_build.specs.Tasks.{Marks, Shows, LeftBy, Job, inside, Ready, Task, Done, CellTask, CellDone, PairTask, PairDone, VectorTask, VectorDone, ElementsTask, ElementsDone, ElementTask, ElementDone}
use Rattle.heap_build.proofs.StepLaws.{slot_plain, slot_again, slot_first, draft_step, draft_scalar, left_as, left_none, left_weaker, gave_up, On, went_on, at_small, noted_left, mark_plain, mark_labelled, mark_label, mark_begun, mark_not_begun, marks_begin}

-- the same build with another draft, or less deep
abbrev pub with_draft : Job → Draft → Job
with_draft j d =
    record { rooms = j.rooms; heap = j.heap; labels = j.labels; depth = j.depth; draft = d; start = j.start }

abbrev pub deeper : Job → Job
deeper j =
    record { rooms = j.rooms; heap = j.heap; labels = j.labels; depth = j.depth - 1; draft = j.draft; start = j.start }

-- the lists are ready for what follows a part that went on
ready_on : (j : Job) (enough next : ℕ) (p : Page) (words bytes elems marks out : List ℕ) → Ready j enough p words bytes elems marks out → (d : Draft) (q : Page) (marks' out' : List ℕ) → Shows j.labels j.start d q marks' out' → d.left ≤ next → length marks' ≡ length marks → Ready (with_draft j d) next q words bytes elems marks' out'
ready_on j enough next p words bytes elems marks out t d q marks' out' s few size =
    record {
      stands = t.stands;
      bytes_are = t.bytes_are;
      shows = s;
      few = few;
      room = omega (arith, t.room, size);
    }

-- ---- sizes of nodes

short_node : (n : Node) (k : ℕ) → length (write_node n) ≡ k → k ≤ 4101 → length (write_node n) ≤ 4101
short_node n k e h = omega (arith, e)

label_size : (k l : ℕ) → length (k ∷ little 4 l) ≡ 5
label_size k l = ap suc (length-little 4 l)

pub scalar_size : (x : Scalar) → length (write_scalar x) ≤ 4101
unfolding nodes_rules
scalar_size cells.undefined = omega arith
scalar_size cells.nil = omega arith
scalar_size cells.eof = omega arith
scalar_size cells.void = omega arith
scalar_size (cells.bool b) = omega (arith, length-little 4 (cells.bit b))
scalar_size (cells.char n) = omega (arith, length-little 4 n)
scalar_size (cells.number n) = omega (arith, length-little 8 n)

-- ---- a slot

module _ (j : Job) (s : ℕ) (p : Page) (words bytes elems marks out : List ℕ) (t : Task j s p words bytes elems marks out) where
  abbrev one : cells.Value → Draft → Option Draft
  one v d = inside (deeper j) v d

  pub slot_mark : s < length marks
  slot_mark = omega (arith, (used_slot j.heap s t.used).below, t.ready.room)

  pub task_at : p.at ≤ 16797696
  task_at = at_small j.labels j.start j.draft p marks out t.ready.shows

  abbrev mark : ℕ
  mark = get_or marks s 0

  abbrev told : Marks j.labels j.draft.begun marks
  told = t.ready.shows.marks_are

  step : inside j (slot s) j.draft ≡ draft_slot one j.heap j.labels s j.draft
  unfolding inside
  step = draft_step j.depth j.heap j.labels s j.draft t.ready.few

  cell_ready : Ready (deeper j) (suc (j.depth - 1)) p words bytes elems marks out
  cell_ready =
      record {
        stands = t.ready.stands;
        bytes_are = t.ready.bytes_are;
        shows = t.ready.shows;
        few = omega (arith, t.ready.few);
        room = t.ready.room;
      }

  -- one that has no label
  module _ (low : mark / 4 ≡ 0) where
    pub plain_task : CellTask (deeper j) s p words bytes elems marks out
    plain_task = record { ready = cell_ready; used = t.used }

    pub plain_done : (r : code.Option Page) (marks' out' : List ℕ) → CellDone (deeper j) s r marks' out' → Done j s r marks' out'
    plain_done r marks' out' c =
        record {
          left =
              left_as j.labels j.start j.draft.left _ _ r marks' out'
              (sym (step ∙ slot_plain one j.heap j.labels s j.draft (mark_plain j.labels j.draft.begun marks told s low)))
              c.left;
        }

  module _ (high : mark / 4 ≡ 0 → ⊥) where
    labelled : mark / 4 - 1 ≡ place_in j.labels s
    labelled = mark_label j.labels j.draft.begun marks told s high

    -- "a reference later"
    pub ref_done : mark % 4 ≡ 2 → (r : code.Option Page) (after : List ℕ) → Noted out (13 ∷ little 4 (mark / 4 - 1)) p after r → Done j s r marks after
    unfolding nodes_rules
    ref_done e r after n =
        let l = place_in j.labels s in
        record {
          left =
              left_as j.labels j.start j.draft.left _ _ r marks after
              (sym
              (step
              ∙ slot_again one j.heap j.labels s j.draft (mark_labelled j.labels j.draft.begun marks told s high)
              (mark_begun j.labels j.draft.begun marks told s e)))
              (noted_left j.labels j.start j.draft p marks out t.ready.shows (Node.atom (Atom.ref l))
              (short_node (Node.atom (Atom.ref l)) 5 (label_size 13 l) (omega arith)) after r
              (noted_as out p after r (ap (λ (x : ℕ). 13 ∷ little 4 x) labelled) n));
        }

    -- "a definition at first meeting"
    module _ (new : mark % 4 ≡ 2 → ⊥) (after : List ℕ) (q : code.Option Page) (n : Noted out (12 ∷ little 4 (mark / 4 - 1)) p after q) where
      abbrev begun : Draft
      begun = begin s j.draft

      abbrev l : ℕ
      l = place_in j.labels s

      abbrev marked : List ℕ
      marked = set marks s (4 * (mark / 4) + 2)

      begun_shows : Shows j.labels j.start begun p marked out
      begun_shows =
          record {
            left_is = t.ready.shows.left_is;
            at_is = t.ready.shows.at_is;
            out_is = t.ready.shows.out_is;
            marks_are = marks_begin j.labels j.draft.begun marks told s slot_mark;
            small = t.ready.shows.small;
          }

      pub head : LeftBy j.labels j.start j.draft.left (note (Node.def l) begun) q marked after
      unfolding nodes_rules
      head =
          noted_left j.labels j.start begun p marked out begun_shows (Node.def l)
          (short_node (Node.def l) 5 (label_size 12 l) (omega arith)) after q
          (noted_as out p after q (ap (λ (x : ℕ). 12 ∷ little 4 x) labelled) n)

      def_step : inside j (slot s) j.draft ≡ and_next (note (Node.def l) begun) (draft_cell one j.heap (cell_at j.heap s))
      def_step =
          step
          ∙ slot_first one j.heap j.labels s j.draft (mark_labelled j.labels j.draft.begun marks told s high)
          (mark_not_begun j.labels j.draft.begun marks told s new)

      pub def_none : q ≡ None → (r : code.Option Page) → r ≡ None → Done j s r marked after
      unfolding and_next
      def_none e r none_left =
          record {
            left =
                left_none j.labels j.start j.draft.left _ r marked after
                (def_step
                ∙ ap (λ (o : Option Draft). and_next o (draft_cell one j.heap (cell_at j.heap s)))
                (gave_up j.labels j.start j.draft.left (note (Node.def l) begun) q marked after head e))
                none_left;
          }

      module _ (u : Page) (on : q ≡ Some u) where
        pub went : On j.labels j.start j.draft.left (note (Node.def l) begun) q marked after head u
        went = went_on j.labels j.start j.draft.left (note (Node.def l) begun) q marked after head u on

        abbrev pub def_job : Job
        def_job = with_draft (deeper j) went.draft

        pub def_falls : u.left < p.left
        def_falls = omega (arith, went.made.below, t.ready.shows.left_is)

        pub def_task : CellTask def_job s u words bytes elems marked after
        def_task =
            record {
              ready =
                  ready_on (deeper j) (suc (j.depth - 1)) (suc (j.depth - 1)) p words bytes elems marks out cell_ready went.draft u marked after
                  went.made.shows
                  (omega (arith, went.made.below, went.made.shows.left_is, t.ready.few))
                  (length-set marks s (4 * (mark / 4) + 2));
              used = t.used;
            }

        pub def_done : (r : code.Option Page) (marks' out' : List ℕ) → CellDone def_job s r marks' out' → Done j s r marks' out'
        unfolding and_next inside
        def_done r marks' out' c =
            record {
              left =
                  left_weaker j.labels j.start went.draft.left j.draft.left _ r marks' out'
                  (omega (arith, went.made.below, went.made.shows.left_is))
                  (left_as j.labels j.start went.draft.left _ _ r marks' out'
                  (sym
                  (def_step
                  ∙ ap (λ (o : Option Draft). and_next o (draft_cell one j.heap (cell_at j.heap s))) went.is))
                  c.left);
            }

-- ---- a slot's cell

-- a cell that is a scalar
pub record PlainCell (v : VCell) : Type 0 where
  pub scalar_is : Scalar
  pub is : cell_of v ≡ plain scalar_is

module _ (j : Job) (s : ℕ) (p : Page) (words bytes elems marks out : List ℕ) (t : CellTask j s p words bytes elems marks out) where
  cell_small : s < capacity j.heap
  cell_small = (used_slot j.heap s t.used).below

  pub cell_row : 8 * s + 16 ≤ length words
  cell_row = row_there j.rooms j.heap words elems t.ready.stands s cell_small

  pub cell_at_small : p.at ≤ 16797696
  cell_at_small = at_small j.labels j.start j.draft p marks out t.ready.shows

  module _ (v : VCell) (l : cell_of v ≡ loaded words s) where
    shown : (c : Cell) → cell_of v ≡ c → cell_at j.heap s ≡ c
    shown c e = sym (cell_there j.rooms j.heap words elems t.ready.stands s cell_small) ∙ sym l ∙ e

    good_cell : (c : Cell) → cell_of v ≡ c → CellGood j.heap c
    good_cell c e = subst (λ (x : Cell). CellGood j.heap x) (shown c e) (t.ready.stands.good.cells s)

    cell_as : (c : Cell) → cell_of v ≡ c → (r : code.Option Page) (marks' out' : List ℕ) → LeftBy j.labels j.start j.draft.left (draft_cell (inside j) j.heap c j.draft) r marks' out' → CellDone j s r marks' out'
    cell_as c e r marks' out' m =
        record {
          left =
              left_as j.labels j.start j.draft.left _ _ r marks' out'
              (ap (λ (x : Cell). draft_cell (inside j) j.heap x j.draft) (sym (shown c e))) m;
        }

    module _ (a d : ℕ) (is : v ≡ code_cell.Pair a d) where
      linked : both (in_use j.heap a) (in_use j.heap d) ≡ true
      unfolding call_rules
      linked = (good_cell (pair a d) (ap cell_of is)).linked

      pub pair_task : PairTask j a d p words bytes elems marks out
      pair_task =
          record { ready = t.ready; car_used = both_left (in_use j.heap a) _ linked; cdr_used = both_right (in_use j.heap a) _ linked }

      pub pair_cell : (r : code.Option Page) (marks' out' : List ℕ) → PairDone j a d r marks' out' → CellDone j s r marks' out'
      unfolding draft_cell
      pair_cell r marks' out' o = cell_as (pair a d) (ap cell_of is) r marks' out' o.left

    module _ (place n : ℕ) (is : v ≡ code_cell.Vector place n) where
      good_vector : CellGood j.heap (vector (block place n))
      good_vector = good_cell (vector (block place n)) (ap cell_of is)

      pub vector_task : VectorTask j place n p words bytes elems marks out
      unfolding sound_rules
      vector_task =
          record {
            ready = t.ready;
            within =
                leb-true (place + n) (length j.heap.elements)
                (both_left (leb (place + n) (length j.heap.elements)) _ good_vector.vector_in);
            named = elements_named j.heap (block place n) good_vector;
          }

      pub vector_cell : (r : code.Option Page) (marks' out' : List ℕ) → VectorDone j place n r marks' out' → CellDone j s r marks' out'
      unfolding draft_cell
      vector_cell r marks' out' o = cell_as (vector (block place n)) (ap cell_of is) r marks' out' o.left

    -- a text
    module _ (b : Block) (inside_is : lies_in (length j.heap.bytes) b ≡ true) (most : b.size ≤ 4096) where
      lies : b.place + b.size ≤ length j.heap.bytes
      unfolding sound_rules
      lies = leb-true (b.place + b.size) (length j.heap.bytes) (both_left (leb (b.place + b.size) (length j.heap.bytes)) _ inside_is)

      text_in_room : b.place + b.size ≤ length bytes
      unfolding layout_rules
      text_in_room =
          omega (
            arith,
            lies,
            ap length t.ready.bytes_are ∙ length-append j.heap.bytes (Rattle.laws.specs.Basics.zeros (j.rooms.bytes - length j.heap.bytes)),
          )

      text_there : part_of bytes b ≡ text_of j.heap b
      text_there = ap (λ (x : List ℕ). part_of x b) t.ready.bytes_are ∙ text_is j.rooms.bytes j.heap b lies

      text_short : (text : List ℕ) → text ≡ part_of bytes b → length text ≤ 4096
      text_short text e =
          omega (arith, ap length (e ∙ text_there), length_part j.heap.bytes b.place b.size lies, most)

      text_noted : (k : ℕ) (a : Atom) → write_node (Node.atom a) ≡ k ∷ write_text (text_of j.heap b) → (text : List ℕ) → text ≡ part_of bytes b → (r : code.Option Page) (after : List ℕ) → Noted out (k ∷ write_text text) p after r → LeftBy j.labels j.start j.draft.left (note (Node.atom a) j.draft) r marks after
      unfolding nodes_rules
      text_noted k a w text e r after n =
          let tx = text_of j.heap b in
          noted_left j.labels j.start j.draft p marks out t.ready.shows (Node.atom a)
          (omega (
            arith,
            ap length w,
            length-append (little 4 (length tx)) tx,
            length-little 4 (length tx),
            length_part j.heap.bytes b.place b.size lies,
            most,
          ))
          after r
          (noted_as out p after r (ap (λ (x : List ℕ). k ∷ write_text x) (e ∙ text_there) ∙ sym w) n)

    module _ (place n : ℕ) (is : v ≡ code_cell.Symbol place n) where
      good_symbol : CellGood j.heap (symbol (block place n))
      good_symbol = good_cell (symbol (block place n)) (ap cell_of is)

      symbol_most : n ≤ 4096
      unfolding sound_rules
      symbol_most = omega (arith, leb-true n most_name (both_left (leb n most_name) _ good_symbol.allowed))

      symbol_lies : lies_in (length j.heap.bytes) (block place n) ≡ true
      unfolding text_block
      symbol_lies = good_symbol.text_in

      pub symbol_room : place + n ≤ length bytes
      symbol_room = text_in_room (block place n) symbol_lies symbol_most

      pub symbol_short : (text : List ℕ) → text ≡ part_of bytes (block place n) → length text ≤ 4096
      symbol_short = text_short (block place n) symbol_lies symbol_most

      pub symbol_cell : (text : List ℕ) → text ≡ part_of bytes (block place n) → (r : code.Option Page) (after : List ℕ) → Noted out (8 ∷ write_text text) p after r → CellDone j s r marks after
      unfolding draft_cell nodes_rules
      symbol_cell text e r after o =
          cell_as (symbol (block place n)) (ap cell_of is) r marks after
          (text_noted (block place n) symbol_lies symbol_most 8 (Atom.symbol (text_of j.heap (block place n))) refl text e r after o)

    module _ (place n : ℕ) (is : v ≡ code_cell.String place n) where
      good_string : CellGood j.heap (string (block place n))
      good_string = good_cell (string (block place n)) (ap cell_of is)

      string_most : n ≤ 4096
      unfolding sound_rules
      string_most = leb-true n most_string (both_left (leb n most_string) _ good_string.allowed)

      string_lies : lies_in (length j.heap.bytes) (block place n) ≡ true
      unfolding text_block
      string_lies = good_string.text_in

      pub string_room : place + n ≤ length bytes
      string_room = text_in_room (block place n) string_lies string_most

      pub string_short : (text : List ℕ) → text ≡ part_of bytes (block place n) → length text ≤ 4096
      string_short = text_short (block place n) string_lies string_most

      pub string_cell : (text : List ℕ) → text ≡ part_of bytes (block place n) → (r : code.Option Page) (after : List ℕ) → Noted out (7 ∷ write_text text) p after r → CellDone j s r marks after
      unfolding draft_cell nodes_rules
      string_cell text e r after o =
          cell_as (string (block place n)) (ap cell_of is) r marks after
          (text_noted (block place n) string_lies string_most 7 (Atom.string (text_of j.heap (block place n))) refl text e r after o)

    pub scalar_cell : (x : Scalar) → cell_of v ≡ plain x → (r : code.Option Page) (after : List ℕ) → Noted out (write_scalar x) p after r → CellDone j s r marks after
    unfolding draft_cell nodes_rules
    scalar_cell x e r after o =
        cell_as (plain x) e r marks after
        (noted_left j.labels j.start j.draft p marks out t.ready.shows (Node.atom (Atom.plain x)) (scalar_size x) after r o)

-- the words of a scalar cell, and of a scalar value
pub cell_scalar : (w : Words) (v : VCell) (x : Scalar) → three w ≡ cell_words (cell_of v) → cell_of v ≡ plain x → three w ≡ scalar_words x
unfolding layout_rules
cell_scalar w v x e is = e ∙ ap cell_words is

pub value_scalar : (w : Words) (v : Value) (x : Scalar) → three w ≡ value_words (value_of v) → value_of v ≡ scalar x → three w ≡ scalar_words x
unfolding layout_rules
value_scalar w v x e is = e ∙ ap value_words is

-- ---- a pair

module _ (j : Job) (a d : ℕ) (p : Page) (words bytes elems marks out : List ℕ) (t : PairTask j a d p words bytes elems marks out) where
  pub pair_at : p.at ≤ 16797696
  pair_at = at_small j.labels j.start j.draft p marks out t.ready.shows

  abbrev after_car : Draft → Option Draft
  after_car e = and_next (inside j (slot a) e) (λ e. inside j (slot d) e)

  module _ (out₁ : List ℕ) (q : code.Option Page) (n : Noted out (9 ∷ little 0 0) p out₁ q) where
    pub head_noted : LeftBy j.labels j.start j.draft.left (note Node.pair j.draft) q marks out₁
    unfolding nodes_rules basics
    head_noted =
        noted_left j.labels j.start j.draft p marks out t.ready.shows Node.pair
        (short_node Node.pair 1 refl (omega arith)) out₁ q n

    pub pair_none : q ≡ None → (r : code.Option Page) → r ≡ None → PairDone j a d r marks out₁
    unfolding draft_pair and_next
    pair_none e r none_left =
        record {
          left =
              left_none j.labels j.start j.draft.left _ r marks out₁
              (ap (λ (o : Option Draft). and_next o after_car)
              (gave_up j.labels j.start j.draft.left (note Node.pair j.draft) q marks out₁ head_noted e))
              none_left;
        }

    module _ (head : Page) (on : q ≡ Some head) where
      pub head_on : On j.labels j.start j.draft.left (note Node.pair j.draft) q marks out₁ head_noted head
      head_on = went_on j.labels j.start j.draft.left (note Node.pair j.draft) q marks out₁ head_noted head on

      pub head_falls : head.left < p.left
      head_falls = omega (arith, head_on.made.below, t.ready.shows.left_is)

      abbrev pub car_job : Job
      car_job = with_draft j head_on.draft

      car_ready : Ready car_job j.depth head words bytes elems marks out₁
      car_ready =
          ready_on j (suc j.depth) j.depth p words bytes elems marks out t.ready head_on.draft head marks out₁ head_on.made.shows
          (omega (arith, head_on.made.below, head_on.made.shows.left_is, t.ready.few)) refl

      pub car_task : Task car_job a head words bytes elems marks out₁
      car_task = record { ready = car_ready; used = t.car_used }

      pair_head : draft_pair (inside j) a d j.draft ≡ after_car head_on.draft
      unfolding draft_pair and_next
      pair_head = ap (λ (o : Option Draft). and_next o after_car) head_on.is

      module _ (r : code.Option Page) (marks₂ out₂ : List ℕ) (o : Done car_job a r marks₂ out₂) where
        pub car_none : r ≡ None → (u : code.Option Page) → u ≡ None → PairDone j a d u marks₂ out₂
        unfolding and_next inside
        car_none e u none_left =
            record {
              left =
                  left_none j.labels j.start j.draft.left _ u marks₂ out₂
                  (pair_head
                  ∙ ap (λ (x : Option Draft). and_next x (λ e. inside j (slot d) e))
                  (gave_up j.labels j.start head_on.draft.left (inside car_job (slot a) head_on.draft) r marks₂ out₂ o.left e))
                  none_left;
            }

        module _ (car : Page) (on₂ : r ≡ Some car) where
          pub car_on : On j.labels j.start head_on.draft.left (inside car_job (slot a) head_on.draft) r marks₂ out₂ o.left car
          car_on = went_on j.labels j.start head_on.draft.left (inside car_job (slot a) head_on.draft) r marks₂ out₂ o.left car on₂

          pub car_falls : car.left < p.left
          car_falls = omega (arith, car_on.made.below, head_on.made.below, head_on.made.shows.left_is, t.ready.shows.left_is)

          abbrev pub cdr_job : Job
          cdr_job = with_draft j car_on.draft

          pub cdr_task : length marks₂ ≡ length marks → Task cdr_job d car words bytes elems marks₂ out₂
          cdr_task size =
              record {
                ready =
                    ready_on car_job j.depth j.depth head words bytes elems marks out₁ car_ready car_on.draft car marks₂ out₂ car_on.made.shows
                    (omega (arith, car_on.made.below, car_on.made.shows.left_is, car_ready.few)) size;
                used = t.cdr_used;
              }

          pub pair_done : (u : code.Option Page) (marks₃ out₃ : List ℕ) → Done cdr_job d u marks₃ out₃ → PairDone j a d u marks₃ out₃
          unfolding and_next inside
          pair_done u marks₃ out₃ c =
              record {
                left =
                    left_weaker j.labels j.start car_on.draft.left j.draft.left _ u marks₃ out₃
                    (omega (arith, car_on.made.below, car_on.made.shows.left_is, head_on.made.below, head_on.made.shows.left_is))
                    (left_as j.labels j.start car_on.draft.left _ _ u marks₃ out₃
                    (sym (pair_head ∙ ap (λ (x : Option Draft). and_next x (λ e. inside j (slot d) e)) car_on.is))
                    c.left);
              }

-- ---- a vector

module _ (j : Job) (place n : ℕ) (p : Page) (words bytes elems marks out : List ℕ) (t : VectorTask j place n p words bytes elems marks out) where
  pub vector_at : p.at ≤ 16797696
  vector_at = at_small j.labels j.start j.draft p marks out t.ready.shows

  abbrev items : List cells.Value
  items = elements_of j.heap (block place n)

  items_size : length items ≡ n
  items_size = length_part j.heap.elements place n t.within

  module _ (out₁ : List ℕ) (q : code.Option Page) (w : Noted out (10 ∷ little 4 n) p out₁ q) where
    pub vector_noted : LeftBy j.labels j.start j.draft.left (note (Node.vector (length items)) j.draft) q marks out₁
    unfolding nodes_rules
    vector_noted =
        noted_left j.labels j.start j.draft p marks out t.ready.shows (Node.vector (length items))
        (short_node (Node.vector (length items)) 5 (label_size 10 (length items)) (omega arith)) out₁ q
        (noted_as out p out₁ q (ap (λ (x : ℕ). 10 ∷ little 4 x) (sym items_size)) w)

    pub vector_none : q ≡ None → (r : code.Option Page) → r ≡ None → VectorDone j place n r marks out₁
    unfolding draft_vector and_next
    vector_none e r none_left =
        record {
          left =
              left_none j.labels j.start j.draft.left _ r marks out₁
              (ap (λ (o : Option Draft). and_next o (λ d. draft_all (inside j) items d))
              (gave_up j.labels j.start j.draft.left (note (Node.vector (length items)) j.draft) q marks out₁ vector_noted e))
              none_left;
        }

    module _ (head : Page) (on : q ≡ Some head) where
      pub vector_on : On j.labels j.start j.draft.left (note (Node.vector (length items)) j.draft) q marks out₁ vector_noted head
      vector_on = went_on j.labels j.start j.draft.left (note (Node.vector (length items)) j.draft) q marks out₁ vector_noted head on

      pub vector_falls : head.left < p.left
      vector_falls = omega (arith, vector_on.made.below, t.ready.shows.left_is)

      abbrev pub items_job : Job
      items_job = with_draft j vector_on.draft

      pub items_task : ElementsTask items_job place n head words bytes elems marks out₁
      items_task =
          record {
            ready =
                ready_on j (suc j.depth) j.depth p words bytes elems marks out t.ready vector_on.draft head marks out₁ vector_on.made.shows
                (omega (arith, vector_on.made.below, vector_on.made.shows.left_is, t.ready.few)) refl;
            within = t.within;
            named = t.named;
          }

      pub vector_done : (r : code.Option Page) (marks' out' : List ℕ) → ElementsDone items_job place n r marks' out' → VectorDone j place n r marks' out'
      unfolding draft_vector and_next inside
      vector_done r marks' out' o =
          record {
            left =
                left_weaker j.labels j.start (suc vector_on.draft.left) j.draft.left _ r marks' out'
                (omega (arith, vector_on.made.below, vector_on.made.shows.left_is))
                (left_as j.labels j.start (suc vector_on.draft.left) _ _ r marks' out'
                (sym (ap (λ (x : Option Draft). and_next x (λ d. draft_all (inside j) items d)) vector_on.is))
                o.left);
          }

-- ---- a vector's elements

module _ (j : Job) (place n : ℕ) (p : Page) (words bytes elems marks₀ out₀ : List ℕ) where
  abbrev all : List cells.Value
  all = elements_of j.heap (block place n)

  -- the elements so far are written, and what is left makes the whole
  pub record Going (i : ℕ) (q : Page) (marks out : List ℕ) : Type 0 where
    pub so_far : Draft
    pub ready : Ready (with_draft j so_far) j.depth q words bytes elems marks out
    pub whole : draft_all (inside j) (drop i all) so_far ≡ draft_all (inside j) all j.draft
    pub passed : i ≤ n
    pub fewer : so_far.left ≤ j.draft.left

  module _ (t : ElementsTask j place n p words bytes elems marks₀ out₀) where
    all_size : length all ≡ n
    all_size = length_part j.heap.elements place n t.within

    pub going_start : Going 0 p marks₀ out₀
    going_start = record { so_far = j.draft; ready = t.ready; whole = refl; passed = omega arith; fewer = omega arith }

    pub going_place : place + n ≤ length elems
    going_place = omega (arith, t.within, elems_length j.rooms j.heap words elems t.ready.stands)

    module _ (i : ℕ) (q : Page) (marks out : List ℕ) (g : Going i q marks out) where
      pub going_left : q.left ≤ p.left
      going_left = omega (arith, g.fewer, g.ready.shows.left_is, t.ready.shows.left_is)

      pub going_ends : n ≤ i → ElementsDone j place n (Some q) marks out
      unfolding draft_all LeftBy
      going_ends e =
          record {
            left =
                left_as j.labels j.start (suc j.draft.left) (some g.so_far) _ (Some q) marks out
                (ap (λ (l : List cells.Value). draft_all (inside j) l g.so_far) (sym (lib.ListN.drop_of_length-le all {i = i} (omega (arith, all_size)))) ∙ g.whole)
                (record { shows = g.ready.shows; below = omega (arith, g.fewer, g.ready.shows.left_is) });
          }

      module _ (low : i < n) where
        abbrev here : cells.Value
        here = element_at j.heap (place + i)

        named_here : value_named j.heap here ≡ true
        named_here =
            ap (value_named j.heap) (sym (get_d_part j.heap.elements place n i (scalar undefined) low))
            ∙ every_all (value_named j.heap) (scalar undefined) all t.named i (omega (arith, all_size))

        abbrev pub element_job : Job
        element_job = with_draft j g.so_far

        pub element_task : ElementTask element_job (place + i) q words bytes elems marks out
        element_task = record { ready = g.ready; within = omega (arith, t.within, low); named = named_here }

        next : draft_all (inside j) all j.draft ≡ and_next (inside j here g.so_far) (λ d. draft_all (inside j) (drop (suc i) all) d)
        unfolding draft_all and_next
        next =
            sym g.whole
            ∙ ap (λ (l : List cells.Value). draft_all (inside j) l g.so_far)
            (drop-cons all i (scalar undefined) (omega (arith, all_size))
            ∙ ap (λ (v : cells.Value). v ∷ drop (suc i) all) (get_d_part j.heap.elements place n i (scalar undefined) low))

        module _ (r : code.Option Page) (marks' out' : List ℕ) (o : ElementDone element_job (place + i) r marks' out') where
          pub going_none : r ≡ None → (u : code.Option Page) → u ≡ None → ElementsDone j place n u marks' out'
          unfolding and_next inside
          going_none e u none_left =
              record {
                left =
                    left_none j.labels j.start (suc j.draft.left) _ u marks' out'
                    (next
                    ∙ ap (λ (x : Option Draft). and_next x (λ d. draft_all (inside j) (drop (suc i) all) d))
                    (gave_up j.labels j.start g.so_far.left (inside element_job here g.so_far) r marks' out' o.left e))
                    none_left;
              }

          pub going_on : (u : Page) → r ≡ Some u → length marks' ≡ length marks → Going (i + 1) u marks' out'
          unfolding and_next inside
          going_on u on size =
              let w = went_on j.labels j.start g.so_far.left (inside element_job here g.so_far) r marks' out' o.left u on in
              let less : w.draft.left ≤ g.so_far.left = omega (arith, w.made.below, w.made.shows.left_is) in
              record {
                so_far = w.draft;
                ready =
                    ready_on element_job j.depth j.depth q words bytes elems marks out g.ready w.draft u marks' out' w.made.shows
                    (omega (arith, less, g.ready.few)) size;
                whole =
                    ap (λ (k : ℕ). draft_all (inside j) (drop k all) w.draft) (native.Mathlib.Numerals.add-one i)
                    ∙ sym (next ∙ ap (λ (x : Option Draft). and_next x (λ d. draft_all (inside j) (drop (suc i) all) d)) w.is);
                passed = omega (arith, low);
                fewer = omega (arith, less, g.fewer);
              }

-- ---- one element

module _ (j : Job) (place : ℕ) (p : Page) (words bytes elems marks out : List ℕ) (t : ElementTask j place p words bytes elems marks out) where
  pub element_here : 3 * place + 3 ≤ length elems
  element_here = element_row j.rooms j.heap words elems t.ready.stands place t.within

  pub element_at_small : p.at ≤ 16797696
  element_at_small = at_small j.labels j.start j.draft p marks out t.ready.shows

  module _ (v : Value) (l : value_of v ≡ loaded_element elems place) where
    is_value : value_of v ≡ element_at j.heap place
    is_value = l ∙ element_there j.rooms j.heap words elems t.ready.stands place t.within

    pub element_slot : (s : ℕ) → v ≡ code_value.Slot s → Task j s p words bytes elems marks out
    unfolding sound_rules
    element_slot s is =
        record { ready = t.ready; used = ap (value_named j.heap) (sym (ap value_of is) ∙ is_value) ∙ t.named }

    pub slot_element : (s : ℕ) → v ≡ code_value.Slot s → (r : code.Option Page) (marks' out' : List ℕ) → Done j s r marks' out' → ElementDone j place r marks' out'
    slot_element s is r marks' out' o =
        record {
          left =
              left_as j.labels j.start j.draft.left _ _ r marks' out'
              (ap (λ (x : cells.Value). inside j x j.draft) (sym (ap value_of is) ∙ is_value)) o.left;
        }

    pub scalar_element : (x : Scalar) → value_of v ≡ scalar x → (r : code.Option Page) (after : List ℕ) → Noted out (write_scalar x) p after r → ElementDone j place r marks after
    unfolding inside nodes_rules
    scalar_element x e r after o =
        record {
          left =
              left_as j.labels j.start j.draft.left _ _ r marks after
              (sym
              (ap (λ (y : cells.Value). draft j.depth j.heap j.labels y j.draft) (sym is_value ∙ e)
              ∙ draft_scalar j.depth j.heap j.labels x j.draft t.ready.few))
              (noted_left j.labels j.start j.draft p marks out t.ready.shows (Node.atom (Atom.plain x)) (scalar_size x) after r o);
        }
