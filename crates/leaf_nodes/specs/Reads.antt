-- What a node by value means in the rules' words, with the bytes that it was read from. Assumes nothing.
use Rattle.std.specs.Prelude.{◌≡◌, Bool, true, false, List, ℕ, ◌+◌, ◌-◌, ◌≤◌, length, take, drop, Result, Ok, Err, IfOk}
use Rattle.rules.specs.Cells.{Scalar, undefined, nil, eof, void, bool, char, number}
use Rattle.rules.specs.Refusals as rules
use Rattle.rules.specs.Nodes.{plain, string, symbol, ident, ref, atom, pair, vector, def, Reading, reads, faulty, field, text, read_node, bytes}
use Rattle.rules.specs.Nodes as rules_nodes
use Rattle.leaf_cells.specs.declared.Value.{Value}
use Rattle.leaf_cells.specs.declared.Value.TheVariants as value
use Rattle.leaf_nodes.specs.declared.Fault.{Fault}
use Rattle.leaf_nodes.specs.declared.Fault.TheVariants.{UnknownKind, CutShort, LeftOver, BadBool, BadChar, BadUtf8}
use Rattle.leaf_nodes.specs.declared.Node.{Node}
use Rattle.leaf_nodes.specs.declared.Node.TheVariants.{Plain, String, Symbol, Ident, Ref, Pair, Vector, Def}
use Rattle.leaf_nodes.specs.declared.Read.{Read}

-- the rules' fault of each case
abbrev pub fault_of : Fault → rules.Fault
fault_of UnknownKind = rules.unknown_kind
fault_of CutShort = rules.cut_short
fault_of LeftOver = rules.left_over
fault_of BadBool = rules.bad_bool
fault_of BadChar = rules.bad_char
fault_of BadUtf8 = rules.bad_utf8

-- the rules' scalar of a value; a slot is none, and stands in no plain node
abbrev pub scalar_of : Value → Scalar
scalar_of (value.Slot s) = undefined
scalar_of value.Undefined = undefined
scalar_of value.Nil = nil
scalar_of value.Eof = eof
scalar_of value.Void = void
scalar_of (value.Bool b) = bool b
scalar_of (value.Char n) = char n
scalar_of (value.Number n) = number n

abbrev pub is_scalar : Value → Bool
is_scalar (value.Slot s) = false
is_scalar value.Undefined = true
is_scalar value.Nil = true
is_scalar value.Eof = true
is_scalar value.Void = true
is_scalar (value.Bool b) = true
is_scalar (value.Char n) = true
is_scalar (value.Number n) = true

-- the rules' reading of a node with this text, where these bytes are left
abbrev pub shown : Node → List ℕ → List ℕ → Reading rules_nodes.Node
shown (Plain v) t rest = reads (atom (plain (scalar_of v))) rest
shown (String n) t rest = reads (atom (string t)) rest
shown (Symbol n) t rest = reads (atom (symbol t)) rest
shown (Ident s n) t rest = reads (atom (ident s t)) rest
shown (Ref l) t rest = reads (atom (ref l)) rest
shown Pair t rest = reads pair rest
shown (Vector n) t rest = reads (vector n) rest
shown (Def l) t rest = reads (def l) rest

-- the length of a node's text
abbrev pub text_length : Node → ℕ
text_length (Plain v) = 0
text_length (String n) = n
text_length (Symbol n) = n
text_length (Ident s n) = n
text_length (Ref l) = 0
text_length Pair = 0
text_length (Vector n) = 0
text_length (Def l) = 0

-- "its text is the last bytes of them": the text of a node that takes `size` bytes
unfoldable pub text_of : List ℕ → Node → ℕ → List ℕ
text_of bs n size = take (text_length n) (drop (size - text_length n) bs)

-- what was read of a list of bytes
unfoldable pub as_read : List ℕ → Result Read Fault → Reading rules_nodes.Node
unfolding text_of
as_read bs (Ok r) = shown r.node (text_of bs r.node r.size) (drop r.size bs)
as_read bs (Err f) = faulty (fault_of f)

-- a plain node is a scalar
abbrev pub in_order : Node → Bool
in_order (Plain v) = is_scalar v
in_order (String n) = true
in_order (Symbol n) = true
in_order (Ident s n) = true
in_order (Ref l) = true
in_order Pair = true
in_order (Vector n) = true
in_order (Def l) = true

-- a node lies inside a list of bytes, and its text inside the node
pub record Placed (bs : List ℕ) (r : Read) : Type 0 where
  pub order : in_order r.node ≡ true
  pub inside : r.size ≤ length bs
  pub texts : text_length r.node ≤ r.size

-- what was read of the node at a list's start
pub record ReadAs (bs : List ℕ) (r : Result Read Fault) : Type 0 where
  pub is : as_read bs r ≡ read_node bs
  pub placed : IfOk r (Placed bs)
  pub all : bytes bs ≡ true

-- ---- by kind

-- a scalar, with what is left, or what is wrong with it
abbrev pub value_reading : Result Value Fault → List ℕ → Reading rules_nodes.Node
value_reading (Ok v) rest = reads (atom (plain (scalar_of v))) rest
value_reading (Err f) rest = faulty (fault_of f)

-- what is made of a field of w bytes, and of what is left
abbrev pub field_reading : ℕ → Result ℕ Fault → (ℕ → List ℕ → Reading rules_nodes.Node) → List ℕ → Reading rules_nodes.Node
field_reading w (Ok n) next bs = next n (drop w bs)
field_reading w (Err f) next bs = faulty (fault_of f)

-- a field of w bytes was read as this, whatever follows, and lies inside the bytes
pub record FieldRead (w : ℕ) (bs : List ℕ) (r : Result ℕ Fault) : Type 0 where
  pub is : (next : ℕ → List ℕ → Reading rules_nodes.Node) → field w next bs ≡ field_reading w r next bs
  pub inside : IfOk r (λ n. w ≤ length bs)

-- what is made of a text that a length stands before, and what is left
abbrev pub text_reading : Result ℕ Fault → (List ℕ → rules_nodes.Node) → List ℕ → Reading rules_nodes.Node
text_reading (Ok n) made bs = reads (made (take n (drop 4 bs))) (drop (4 + n) bs)
text_reading (Err f) made bs = faulty (fault_of f)

-- a text was read as this, whatever is made of it, and lies inside the bytes
pub record TextRead (bs : List ℕ) (r : Result ℕ Fault) : Type 0 where
  pub is : (made : List ℕ → rules_nodes.Node) → text made bs ≡ text_reading r made bs
  pub inside : IfOk r (λ n. 4 + n ≤ length bs)

unfoldable pub reads_rules : Unit {0}
unfolding text_of as_read
reads_rules = tt
