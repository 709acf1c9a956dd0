-- The lent datum: a list of bytes that holds nodes in prefix order, texts inline. A node is its kind's number, then its
-- fields, lowest byte first: 4 bytes each, a Number's 8. Document 01, "What a caller is told", row 11: "unknown kind, cut
-- short, .. Bool not 0 or 1, Char or UTF-8 not allowed". Assumes nothing.
use Rattle.std.specs.Prelude.{Bool, true, false, List, [], ◌∷◌, ◌++◌, ℕ, zero, suc, ltb, length, get_or, take, drop}
use Rattle.laws.specs.Basics.{choose, both, every, little, big, basics}
use Rattle.rules.specs.Numbers.{bits32, bits64}
use Rattle.rules.specs.Refusals.{Fault, unknown_kind, cut_short, bad_bool, bad_char, bad_utf8}
use Rattle.rules.specs.Utf8.{utf8, scalar_value, utf8_rules}
use Rattle.rules.specs.Cells.{Scalar, undefined, nil, eof, void, bool, char, number, bit}

-- a node that no datum follows: a scalar, a text, or a reference to a label
pub data Atom : Type 0 where
  plain : Scalar → Atom
  string symbol : List ℕ → Atom
  ident : ℕ → List ℕ → Atom
  ref : ℕ → Atom

-- pair: car and cdr follow; vector: that many data follow; def: one follows
pub data Node : Type 0 where
  atom : Atom → Node
  pair : Node
  vector : ℕ → Node
  def : ℕ → Node

-- ---- writing a node

unfoldable pub write_text : List ℕ → List ℕ
unfolding basics
write_text t = little 4 (length t) ++ t

unfoldable pub write_scalar : Scalar → List ℕ
unfolding basics
write_scalar undefined = 0 ∷ []
write_scalar nil = 1 ∷ []
write_scalar eof = 2 ∷ []
write_scalar void = 3 ∷ []
write_scalar (bool b) = 4 ∷ little 4 (bit b)
write_scalar (char n) = 5 ∷ little 4 n
write_scalar (number n) = 6 ∷ little 8 n

unfoldable pub write_atom : Atom → List ℕ
unfolding write_scalar write_text basics
write_atom (plain s) = write_scalar s
write_atom (string t) = 7 ∷ write_text t
write_atom (symbol t) = 8 ∷ write_text t
write_atom (ident s t) = 11 ∷ little 4 s ++ write_text t
write_atom (ref l) = 13 ∷ little 4 l

unfoldable pub write_node : Node → List ℕ
unfolding write_atom basics
write_node (atom a) = write_atom a
write_node pair = 9 ∷ []
write_node (vector n) = 10 ∷ little 4 n
write_node (def l) = 12 ∷ little 4 l

-- ---- reading a node

-- a part of the list was read as this, and the rest is left; or there is a fault
pub data Reading (A : Type 0) : Type 0 where
  reads : A → List ℕ → Reading A
  faulty : Fault → Reading A

-- the next w bytes, given on with the rest
unfoldable pub part : {A : Type 0} → ℕ → (List ℕ → List ℕ → Reading A) → List ℕ → Reading A
part w next bs = choose (ltb (length bs) w) (faulty cut_short) (next (take w bs) (drop w bs))

-- the next w bytes as a number
unfoldable pub field : {A : Type 0} → ℕ → (ℕ → List ℕ → Reading A) → List ℕ → Reading A
unfolding part basics
field w next bs = part w (λ b. next (big b)) bs

-- bytes that must be UTF-8
unfoldable pub checked_text : {A : Type 0} → (List ℕ → A) → List ℕ → List ℕ → Reading A
unfolding utf8_rules
checked_text made t rest = choose (utf8 t) (reads (made t) rest) (faulty bad_utf8)

-- a length, and as many bytes of UTF-8
unfoldable pub text : {A : Type 0} → (List ℕ → A) → List ℕ → Reading A
unfolding field part checked_text
text made bs = field 4 (λ n. part n (checked_text made)) bs

unfoldable pub read_plain : Scalar → List ℕ → Reading Node
read_plain s bs = reads (atom (plain s)) bs

unfoldable pub bool_node : ℕ → List ℕ → Reading Node
bool_node zero rest = reads (atom (plain (bool false))) rest
bool_node (suc zero) rest = reads (atom (plain (bool true))) rest
bool_node (suc (suc n)) rest = faulty bad_bool

unfoldable pub char_node : ℕ → List ℕ → Reading Node
unfolding utf8_rules
char_node n rest = choose (scalar_value n) (reads (atom (plain (char n))) rest) (faulty bad_char)

-- how the bytes after a kind's number are read, by that number; a number above these is an unknown kind
unfoldable pub kinds : List (List ℕ → Reading Node)
unfolding read_plain bool_node char_node field text basics
kinds =
    read_plain undefined
    ∷ read_plain nil
    ∷ read_plain eof
    ∷ read_plain void
    ∷ field 4 bool_node
    ∷ field 4 char_node
    ∷ field 8 (λ n. reads (atom (plain (number n))))
    ∷ text (λ t. atom (string t))
    ∷ text (λ t. atom (symbol t))
    ∷ reads pair
    ∷ field 4 (λ n. reads (vector n))
    ∷ field 4 (λ s. text (λ t. atom (ident s t)))
    ∷ field 4 (λ l. reads (def l))
    ∷ field 4 (λ l. reads (atom (ref l)))
    ∷ []

unfoldable pub read_node : List ℕ → Reading Node
unfolding kinds
read_node [] = faulty cut_short
read_node (k ∷ bs) = get_or kinds k (λ b. faulty unknown_kind) bs

-- ---- what a node may hold: its fields in their widths, and 11's rules

unfoldable pub bytes : List ℕ → Bool
unfolding basics
bytes bs = every (λ b. ltb b 256) bs

unfoldable pub text_fits : List ℕ → Bool
unfolding bytes utf8_rules
text_fits t = both (ltb (length t) bits32) (both (bytes t) (utf8 t))

unfoldable pub scalar_fits : Scalar → Bool
unfolding utf8_rules
scalar_fits undefined = true
scalar_fits nil = true
scalar_fits eof = true
scalar_fits void = true
scalar_fits (bool b) = true
scalar_fits (char n) = scalar_value n
scalar_fits (number n) = ltb n bits64

unfoldable pub node_fits : Node → Bool
unfolding scalar_fits text_fits
node_fits (atom (plain s)) = scalar_fits s
node_fits (atom (string t)) = text_fits t
node_fits (atom (symbol t)) = text_fits t
node_fits (atom (ident s t)) = both (ltb s bits32) (text_fits t)
node_fits (atom (ref l)) = ltb l bits32
node_fits pair = true
node_fits (vector n) = ltb n bits32
node_fits (def l) = ltb l bits32

unfoldable pub nodes_rules : Unit {0}
unfolding write_text write_scalar write_atom write_node part field checked_text text read_plain bool_node char_node kinds read_node
    bytes text_fits scalar_fits node_fits
nodes_rules = tt
