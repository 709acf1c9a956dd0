-- A leaf of the tree: what was read is the leaf that stands there, and its put is the rules'. Assumes nothing.
use mathlib.Core.Path.{◌≡◌, refl, sym, ap, ◌∙◌, subst}
use mathlib.Core.Bool.{true}
use mathlib.Core.List.{List, [], ◌∷◌, ◌++◌}
use Prim.Native.Nat.{ℕ, zero, suc, ◌-◌, ◌≤◌, ◌<◌}
use native.Mathlib.Omega.{arith}
use lib.ListN.{length, take, drop, length-append}
use Rattle.rules.specs.Nodes.{Atom, reads, read_node, write_node, node_fits}
use Rattle.rules.specs.Nodes as rules
use Rattle.rules.specs.Cells.{slot, string, symbol}
use Rattle.rules.specs.Heap.{Heap, Entry, capacity, used_count, found, with_bytes, block_after}
use Rattle.rules.specs.Layout.{Rooms, words_of, map_bytes, filled, entry_at}
use Rattle.rules.specs.Put.{Making, Put, making, put_string, make_symbol, put_symbol, put_atom, slot_of, put_rules}
use Rattle.rules.proofs.Nodes.{read_written}
use Rattle.leaf_cells.specs.Elements.{value_of}
use Rattle.leaf_cells.specs.declared.Value.{Value}
use Rattle.leaf_cells.specs.declared.Value.TheVariants as value
use Rattle.leaf_symbols.proofs.TableLaws.{TableFits}
use Rattle.heap_labels.specs.Labels.{labels_in}
use Rattle.heap_steps.specs.Steps.{Open, TextOpen, StringPut, SymbolOpen, SymbolReady, SymbolPut}
use mathlib.Core.Logic.{◌⊎◌, inl, inr}
use Rattle.std.specs.Prelude.{Ok, Err}
use Rattle.leaf_nodes.specs.declared.Fault.{Fault}
use Rattle.leaf_nodes.specs.Reads.{fault_of, ReadAs, shown, scalar_of, in_order, text_of, text_length, reads_rules}
use Rattle.leaf_nodes.specs.declared.Node.TheVariants as node
use Rattle.leaf_nodes.specs.declared.Node.{Node}
use Rattle.leaf_nodes.specs.declared.Read.{Read}
use Rattle.leaf_nodes.proofs.Laws.{plain_value}
use Rattle.heap_atoms.specs.Makings.{an_atom, head_of, Within}
use Rattle.heap_atoms.specs.declared.Put as code
use Rattle.heap_atoms.specs.Tasks.{AtomTask, AtomDone}
use Rattle.heap_atoms.proofs.Keeping.{some_available, able_sized, able_most, new_cell_used, able_bytes}
use mathlib.Core.Option.{Option, none, some}
use lib.ListN.{length-drop, get_or}
use lib.Dec.{ltb}
use borrow.Author.Tests.{ltb-true}
use Rattle.laws.specs.Basics.{every, basics}
use Rattle.laws.proofs.Tests.{both_left, both_right}

pub node_shape : (bs : List ℕ) (r : Read) (n : Node) → r.node ≡ n → ReadAs bs (Ok r) → head_of (shown n (text_of bs r.node r.size) (drop r.size bs)) ≡ head_of (read_node bs)
unfolding reads_rules
node_shape bs r n e q =
    ap (λ (x : Node). head_of (shown x (text_of bs r.node r.size) (drop r.size bs))) (sym e) ∙ ap head_of q.is

pub fault_shape : (bs : List ℕ) (f : Fault) → ReadAs bs (Err f) → an_atom ≡ head_of (read_node bs)
unfolding reads_rules
fault_shape bs f q = ap head_of q.is

-- what is none of these is an atom
pub atom_shape : (bs : List ℕ) (r : Read) (n : Node) → r.node ≡ n → (r.node ≡ node.Pair → ⊥) → ((k : ℕ) → r.node ≡ node.Vector k → ⊥) → ((l : ℕ) → r.node ≡ node.Def l → ⊥) → ReadAs bs (Ok r) → an_atom ≡ head_of (read_node bs)
atom_shape bs r (node.Plain v) e a b c q = node_shape bs r (node.Plain v) e q
atom_shape bs r (node.String n) e a b c q = node_shape bs r (node.String n) e q
atom_shape bs r (node.Symbol n) e a b c q = node_shape bs r (node.Symbol n) e q
atom_shape bs r (node.Ident s n) e a b c q = node_shape bs r (node.Ident s n) e q
atom_shape bs r (node.Ref l) e a b c q = node_shape bs r (node.Ref l) e q
atom_shape bs r node.Pair e a b c q = absurd (a e)
atom_shape bs r (node.Vector n) e a b c q = absurd (b n e)
atom_shape bs r (node.Def l) e a b c q = absurd (c l e)

-- ---- what was read is the leaf

-- the rest of a reading
rest_is : (n : Node) (t d : List ℕ) (x : rules.Node) (rest : List ℕ) → shown n t d ≡ reads x rest → d ≡ rest
rest_is (node.Plain v) t d x rest e = cc
rest_is (node.String n) t d x rest e = cc
rest_is (node.Symbol n) t d x rest e = cc
rest_is (node.Ident s n) t d x rest e = cc
rest_is (node.Ref l) t d x rest e = cc
rest_is node.Pair t d x rest e = cc
rest_is (node.Vector n) t d x rest e = cc
rest_is (node.Def l) t d x rest e = cc

module _ (x : rules.Node) (rest bs : List ℕ) (is : bs ≡ write_node x ++ rest) (fits : node_fits x ≡ true) (rd : Read) (q : ReadAs bs (Ok rd)) where
  -- the reading, with the node that was read
  pub read_as : (n : Node) → rd.node ≡ n → shown n (text_of bs n rd.size) (drop rd.size bs) ≡ reads x rest
  unfolding reads_rules
  read_as n e =
      ap (λ (y : Node). shown y (text_of bs y rd.size) (drop rd.size bs)) (sym e) ∙ q.is ∙ ap read_node is
      ∙ read_written x rest fits

  pub rest_after : drop rd.size bs ≡ rest
  rest_after = rest_is rd.node _ _ x rest (read_as rd.node refl)

  pub size_after : rd.size ≡ length (write_node x)
  size_after =
      omega (
        arith,
        ap length rest_after,
        length-drop rd.size bs,
        ap length is ∙ length-append (write_node x) rest,
        q.placed.inside,
      )

-- ---- a symbol's put does not look at the labels

labels_aside : (m : Making) (x : List ℕ) (s : ℕ) → ((put_symbol x s m).making.heap ≡ (put_symbol x s (making m.heap [])).making.heap) × ((put_symbol x s m).value ≡ (put_symbol x s (making m.heap [])).value)
unfolding put_rules
labels_aside m x s = go (found m.heap x s)
  where
    by : Making → Option Entry → Put
    by k o = elim o [ none ↦ make_symbol x s k | some e ↦ Rattle.rules.specs.Put.put_as (slot e.slot) k ]

    go : (o : Option Entry) → ((by m o).making.heap ≡ (by (making m.heap []) o).making.heap) × ((by m o).value ≡ (by (making m.heap []) o).value)
    go none = (refl, refl)
    go (some e) = (refl, refl)

-- a leaf's node can be read
pub never_faulty : {A : Type 0} (r : Rooms) (f : ℕ) (m : Making) (a : Atom) (rest : List ℕ) (count : ℕ) (datum words map bytes labels : List ℕ) → AtomTask r f m a rest count datum words map bytes labels → (x : Fault) → ReadAs datum (Err x) → A
unfolding reads_rules
never_faulty r f m a rest count datum words map bytes labels t x q =
    let e : rules.faulty (fault_of x) ≡ reads (rules.atom a) rest = q.is ∙ ap read_node t.datum_is ∙ read_written (rules.atom a) rest t.fits in
    let z : ◌≡◌ {A = ℕ} 0 1 = cc in
    absurd (omega arith)

-- ---- which leaf

module _ (r : Rooms) (f : ℕ) (m : Making) (a : Atom) (rest : List ℕ) (count : ℕ) (datum words map bytes labels : List ℕ) (t : AtomTask r f m a rest count datum words map bytes labels) (rd : Read) (q : ReadAs datum (Ok rd)) where
  abbrev leaf : (n : Node) → rd.node ≡ n → shown n (text_of datum n rd.size) (drop rd.size datum) ≡ reads (rules.atom a) rest
  leaf n e = read_as (rules.atom a) rest datum t.datum_is t.fits rd q n e

  abbrev took : rd.size ≡ length (write_node (rules.atom a))
  took = size_after (rules.atom a) rest datum t.datum_is t.fits rd q

  -- the text of a node, as the part of the datum that is handed on
  abbrev part : ℕ → List ℕ
  part n = take n (drop (rd.size - n) datum)

  string_leaf : (n : ℕ) → rd.node ≡ node.String n → a ≡ Atom.string (part n)
  unfolding reads_rules
  string_leaf n e = let p = leaf (node.String n) e in cc

  symbol_leaf : (n : ℕ) → rd.node ≡ node.Symbol n → a ≡ Atom.symbol (part n)
  unfolding reads_rules
  symbol_leaf n e = let p = leaf (node.Symbol n) e in cc

  ident_leaf : (s n : ℕ) → rd.node ≡ node.Ident s n → a ≡ Atom.ident s (part n)
  unfolding reads_rules
  ident_leaf s n e = let p = leaf (node.Ident s n) e in cc

  ref_leaf : (l : ℕ) → rd.node ≡ node.Ref l → a ≡ Atom.ref l
  ref_leaf l e = let p = leaf (node.Ref l) e in cc

  plain_leaf : (v : Value) → rd.node ≡ node.Plain v → a ≡ Atom.plain (scalar_of v)
  plain_leaf v e = let p = leaf (node.Plain v) e in cc

  pub inside_text : (n : Node) → rd.node ≡ n → text_length n ≤ rd.size
  inside_text n e = subst (λ (x : Node). text_length x ≤ rd.size) e q.placed.texts

  pub inside_datum : rd.size ≤ length datum
  inside_datum = q.placed.inside

  -- ---- nodes that are no leaf
  never_pair : {A : Type 0} → rd.node ≡ node.Pair → A
  never_pair e = let p = leaf node.Pair e in let z : ◌≡◌ {A = ℕ} 0 1 = cc in absurd (omega arith)

  never_vector : {A : Type 0} (n : ℕ) → rd.node ≡ node.Vector n → A
  never_vector n e = let p = leaf (node.Vector n) e in let z : ◌≡◌ {A = ℕ} 0 1 = cc in absurd (omega arith)

  never_label : {A : Type 0} (l : ℕ) → rd.node ≡ node.Def l → A
  never_label l e = let p = leaf (node.Def l) e in let z : ◌≡◌ {A = ℕ} 0 1 = cc in absurd (omega arith)

  pub never_tree : {A : Type 0} → (rd.node ≡ node.Pair) ⊎ ((n : ℕ) × (rd.node ≡ node.Vector n)) ⊎ ((l : ℕ) × (rd.node ≡ node.Def l)) → A
  never_tree (inl e) = never_pair e
  never_tree (inr (inl (n, e))) = never_vector n e
  never_tree (inr (inr (l, e))) = never_label l e

  -- ---- a scalar, a reference: the heap stays

  stays : (b : Atom) → a ≡ b → (v : Value) → value_of v ≡ (put_atom b m).value → (put_atom b m).making ≡ m → AtomDone r m a count v rd.size count words map bytes
  stays b e v is same =
      subst (λ (x : Atom). AtomDone r m x count v rd.size count words map bytes) (sym e)
      (record {
        words_are = t.words_are ∙ ap (λ (k : Making). words_of r.slots k.heap) (sym same);
        map_is = t.map_is ∙ ap (λ (k : Making). filled (map_bytes r.slots) k.heap.map) (sym same);
        bytes_are = t.bytes_are ∙ ap (λ (k : Making). filled r.bytes k.heap.bytes) (sym same);
        value_is = is;
        size_is = took ∙ ap (λ (x : Atom). length (write_node (rules.atom x))) e;
        count_is = refl;
      })

  pub plain_done : (v : Value) → rd.node ≡ node.Plain v → AtomDone r m a count v rd.size count words map bytes
  unfolding put_rules
  plain_done v e =
      stays (Atom.plain (scalar_of v)) (plain_leaf v e) v
      (plain_value v (subst (λ (n : Node). in_order n ≡ true) e q.placed.order)) refl

  pub ref_done : (l s : ℕ) → rd.node ≡ node.Ref l → s ≡ slot_of l (labels_in labels count) → AtomDone r m a count (value.Slot s) rd.size count words map bytes
  unfolding put_rules
  ref_done l s e k = stays (Atom.ref l) (ref_leaf l e) (value.Slot s) (ap slot (k ∙ ap (slot_of l) t.labels_are)) refl

  -- ---- a string

  open_for : used_count m.heap < f → Open r.slots m.heap words map
  open_for h =
      record
      { growing = t.able.growing; some = some_available r f m t.able h; words_are = t.words_are; map_is = t.map_is }

  -- the bytes that a new text would make are within the room
  string_within : (x : List ℕ) → a ≡ Atom.string x → Within r f (put_string x m).making
  unfolding put_rules
  string_within x e = subst (λ (y : Atom). Within r f (put_atom y m).making) e t.within

  alloc_bytes : (x : List ℕ) → (Rattle.rules.specs.Heap.alloc (with_bytes m.heap x)).heap.bytes ≡ m.heap.bytes ++ x
  alloc_bytes x =
      (Rattle.heap_steps.proofs.Sizes.alloc_taken (with_bytes m.heap x)
      (able_sized r f (making (with_bytes m.heap x) m.labels) (able_bytes r f m x t.able))).bytes

  pub string_open : (n : ℕ) → rd.node ≡ node.String n → TextOpen r.slots r.bytes m.heap (part n) words map bytes
  unfolding put_rules
  string_open n e =
      let w = string_within (part n) (string_leaf n e) in
      record {
        ready =
            open_for
            (new_cell_used r f (making (with_bytes m.heap (part n)) m.labels) (string (block_after m.heap.bytes (length (part n))))
            (able_bytes r f m (part n) t.able) w);
        bytes_are = t.bytes_are;
        fits = omega (arith, w.bytes, ap length (alloc_bytes (part n)) ∙ length-append m.heap.bytes (part n));
      }

  pub string_done : (n s : ℕ) (ws mp bs : List ℕ) → rd.node ≡ node.String n → StringPut r.slots r.bytes m.heap (part n) s ws mp bs → AtomDone r m a count (value.Slot s) rd.size count ws mp bs
  unfolding put_rules
  string_done n s ws mp bs e p =
      subst (λ (x : Atom). AtomDone r m x count (value.Slot s) rd.size count ws mp bs) (sym (string_leaf n e))
      (record {
        words_are = p.left.words_are;
        map_is = p.left.map_is;
        bytes_are = p.left.bytes_are;
        value_is = p.value_is;
        size_is = took ∙ ap (λ (x : Atom). length (write_node (rules.atom x))) (string_leaf n e);
        count_is = refl;
      })

  -- ---- a symbol or an identifier

  table_fits : TableFits r.slots m.heap
  unfolding basics entry_at
  table_fits =
      record {
        rows = omega (arith, t.able.table_size, t.able.growing.within);
        slots = λ i small. omega (arith, entry_below m.heap.table i small t.able.table_below, t.able.growing.within);
      }
    where
      entry_below : (es : List Entry) (i : ℕ) → i < length es → every (λ (e : Entry). ltb e.slot (capacity m.heap)) es ≡ true → (get_or es i (record { slot = 0; scope = 0 })).slot < capacity m.heap
      entry_below [] i h e = absurd (omega arith)
      entry_below (x ∷ es) zero h e = ltb-true x.slot (capacity m.heap) (both_left (ltb x.slot (capacity m.heap)) _ e)
      entry_below (x ∷ es) (suc i) h e = entry_below es i (omega arith) (both_right (ltb x.slot (capacity m.heap)) _ e)

  bytes_fit : length m.heap.bytes ≤ r.bytes
  bytes_fit =
      omega (arith, t.within.bytes, (Rattle.heap_steps.proofs.Sizes.put_atom_larger a m (able_sized r f m t.able)).bytes)

  -- a symbol of this name and scope can be found or made
  module _ (x : List ℕ) (s : ℕ) (w : Within r f (put_symbol x s m).making) where
    made_within : found m.heap x s ≡ none → Within r f (make_symbol x s m).making
    unfolding put_rules
    made_within e =
        subst
        (λ (o : Option Entry). Within r f (elim o as (λ o. Put) [ none ↦ make_symbol x s m | some e ↦ Rattle.rules.specs.Put.put_as (slot e.slot) m ]).making)
        e
        w

    symbol_new : found m.heap x s ≡ none → SymbolOpen r.slots r.bytes m.heap x words map bytes
    unfolding put_rules
    symbol_new e =
        let v = made_within e in
        let c = symbol (block_after m.heap.bytes (length x)) in
        let h =
        new_cell_used r f (making (with_bytes m.heap x) m.labels) c (able_bytes r f m x t.able)
        (record { used = v.used; bytes = v.bytes; elements = v.elements; labels = v.labels })
        in
        record {
          text =
              record {
                ready = open_for h;
                bytes_are = t.bytes_are;
                fits = omega (arith, v.bytes, ap length (alloc_bytes x) ∙ length-append m.heap.bytes x);
              };
          table = omega (arith, t.able.table_size, t.able.growing.within, h, able_most r f m t.able);
        }

    pub symbol_ready : SymbolReady r.slots r.bytes m.heap x s words map bytes
    symbol_ready =
        record {
          standing = record { words_are = t.words_are; map_is = t.map_is; bytes_are = t.bytes_are };
          bytes_fit = bytes_fit;
          table_fits = table_fits;
          new = symbol_new;
        }

  -- the heap after a symbol's put does not hang on the labels
  module _ (b : Atom) (x : List ℕ) (s : ℕ) (e : a ≡ b) (same : put_atom b m ≡ put_symbol x s m) where
    symbol_within : Within r f (put_symbol x s m).making
    symbol_within = subst (λ (p : Put). Within r f p.making) (ap (λ (y : Atom). put_atom y m) e ∙ same) t.within

    pub symbol_open : SymbolReady r.slots r.bytes m.heap x s words map bytes
    symbol_open = symbol_ready x s symbol_within

    pub symbol_done : (k : ℕ) (ws mp bs : List ℕ) → SymbolPut r.slots r.bytes m.heap x s k ws mp bs → AtomDone r m a count (value.Slot k) rd.size count ws mp bs
    symbol_done k ws mp bs p =
        let h = heap_same x s in
        let all : put_atom a m ≡ put_symbol x s m = ap (λ (y : Atom). put_atom y m) e ∙ same in
        record {
          words_are = p.left.words_are ∙ ap (words_of r.slots) (sym (ap (λ (q : Put). q.making.heap) all ∙ h.0));
          map_is = p.left.map_is ∙ ap (λ (y : Heap). filled (map_bytes r.slots) y.map) (sym (ap (λ (q : Put). q.making.heap) all ∙ h.0));
          bytes_are = p.left.bytes_are ∙ ap (λ (y : Heap). filled r.bytes y.bytes) (sym (ap (λ (q : Put). q.making.heap) all ∙ h.0));
          value_is = p.value_is ∙ sym (ap (λ (q : Put). q.value) all ∙ h.1);
          size_is = took;
          count_is = refl;
        }
      where
        heap_same : (x : List ℕ) (s : ℕ) → ((put_symbol x s m).making.heap ≡ (put_symbol x s (making m.heap [])).making.heap) × ((put_symbol x s m).value ≡ (put_symbol x s (making m.heap [])).value)
        heap_same x s = labels_aside m x s

  -- ---- as the code has it: the text is a part of the datum from one place up to another

  pub handed : (n : ℕ) → n ≤ rd.size → take (rd.size - (rd.size - n)) (drop (rd.size - n) datum) ≡ part n
  handed n h =
      let e : rd.size - (rd.size - n) ≡ n = omega arith in
      ap (λ (k : ℕ). take k (drop (rd.size - n) datum)) e

  module _ (y : List ℕ) where
    pub string_open_on : (n : ℕ) → rd.node ≡ node.String n → y ≡ part n → TextOpen r.slots r.bytes m.heap y words map bytes
    string_open_on n e p =
        subst (λ (x : List ℕ). TextOpen r.slots r.bytes m.heap x words map bytes) (sym p) (string_open n e)

    pub string_done_on : (n s : ℕ) (ws mp bs : List ℕ) → rd.node ≡ node.String n → y ≡ part n → StringPut r.slots r.bytes m.heap y s ws mp bs → AtomDone r m a count (value.Slot s) rd.size count ws mp bs
    string_done_on n s ws mp bs e p k =
        string_done n s ws mp bs e (subst (λ (x : List ℕ). StringPut r.slots r.bytes m.heap x s ws mp bs) p k)

    pub symbol_open_on : (n : ℕ) → rd.node ≡ node.Symbol n → y ≡ part n → SymbolReady r.slots r.bytes m.heap y 0 words map bytes
    unfolding put_rules
    symbol_open_on n e p = symbol_open (Atom.symbol y) y 0 (symbol_leaf n e ∙ ap Atom.symbol (sym p)) refl

    pub symbol_done_on : (n s : ℕ) (ws mp bs : List ℕ) → rd.node ≡ node.Symbol n → y ≡ part n → SymbolPut r.slots r.bytes m.heap y 0 s ws mp bs → AtomDone r m a count (value.Slot s) rd.size count ws mp bs
    unfolding put_rules
    symbol_done_on n s ws mp bs e p k = symbol_done (Atom.symbol y) y 0 (symbol_leaf n e ∙ ap Atom.symbol (sym p)) refl s ws mp bs k

    pub ident_open_on : (z n : ℕ) → rd.node ≡ node.Ident z n → y ≡ part n → SymbolReady r.slots r.bytes m.heap y z words map bytes
    unfolding put_rules
    ident_open_on z n e p = symbol_open (Atom.ident z y) y z (ident_leaf z n e ∙ ap (Atom.ident z) (sym p)) refl

    pub ident_done_on : (z n s : ℕ) (ws mp bs : List ℕ) → rd.node ≡ node.Ident z n → y ≡ part n → SymbolPut r.slots r.bytes m.heap y z s ws mp bs → AtomDone r m a count (value.Slot s) rd.size count ws mp bs
    unfolding put_rules
    ident_done_on z n s ws mp bs e p k = symbol_done (Atom.ident z y) y z (ident_leaf z n e ∙ ap (Atom.ident z) (sym p)) refl s ws mp bs k

-- what was put, in the answer's fields
pub answered : (r : Rooms) (m : Making) (a : Atom) (count : ℕ) (v : Value) (size labels : ℕ) (ws mp bs : List ℕ) (p : code.Put Value) → p ≡ record { value = v; size = size; labels = labels } → AtomDone r m a count v size labels ws mp bs → AtomDone r m a count p.value p.size p.labels ws mp bs
answered r m a count v size labels ws mp bs p e d =
    subst (λ (x : code.Put Value). AtomDone r m a count x.value x.size x.labels ws mp bs) (sym e) d
