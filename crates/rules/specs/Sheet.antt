-- Document 01, "Sheets": the grammar, and what it says is put. A line of the data is one node, written into the datum's
-- bytes as it stands: whether its fields are allowed is the put's to say (11), not the grammar's. Assumes nothing.
use Rattle.std.specs.Prelude.{true, false, List, [], ◌∷◌, ◌++◌, ℕ, zero, suc, ◌+◌, ◌-◌, eqb}
use Rattle.std.proofs.Math.Option.{Option, none, some}
use Rattle.laws.specs.Basics.{ascii, little, same, basics}
use Rattle.rules.specs.Nodes.{write_text, nodes_rules}
use Rattle.rules.specs.Text.{unsigned32, signed64, unhex, text_rules}

-- ---- lines

-- the lines of a text, each ended by LF; `line` is what was read of the first. None where the last line is not ended.
unfoldable pub lines_from : List ℕ → List ℕ → Option (List (List ℕ))
lines_from line [] = elim line [ [] ↦ some [] | c ∷ cs ↦ none ]
lines_from line (c ∷ cs) =
    elim (eqb c 10)
    [ true ↦ elim (lines_from [] cs) [ none ↦ none | some ls ↦ some (line ∷ ls) ] | false ↦ lines_from (line ++ (c ∷ [])) cs ]

unfoldable pub lines : List ℕ → Option (List (List ℕ))
unfolding lines_from
lines text = lines_from [] text

-- what follows a key, where the line begins with it
unfoldable pub value_of : List ℕ → List ℕ → Option (List ℕ)
value_of [] line = some line
value_of (k ∷ ks) [] = none
value_of (k ∷ ks) (c ∷ cs) = elim (eqb k c) [ true ↦ value_of ks cs | false ↦ none ]

unfoldable pub then_read : {A B : Type 0} → Option A → (A → Option B) → Option B
then_read none next = none
then_read (some a) next = next a

-- ---- node lines

-- a node's bytes, and how many data follow it
pub record Line : Type 0 where
  pub node : List ℕ
  pub follow : ℕ

abbrev line : List ℕ → ℕ → Option Line
line bs n = some (record { node = bs; follow = n })

-- a key, and how its value is read
pub record Form : Type 0 where
  pub key : List ℕ
  pub read : List ℕ → Option Line

abbrev form : List ℕ → (List ℕ → Option Line) → Form
form k r = record { key = k; read = r }

-- no value
unfoldable pub bare : ℕ → ℕ → List ℕ → Option Line
bare kind n [] = line (kind ∷ []) n
bare kind n (c ∷ cs) = none

-- a number of 32 bits
unfoldable pub numbered : ℕ → (ℕ → ℕ) → List ℕ → Option Line
unfolding then_read text_rules basics
numbered kind follow t = then_read (unsigned32 t) (λ n. line (kind ∷ little 4 n) (follow n))

unfoldable pub hexed : List ℕ → List ℕ → Option Line
unfolding then_read text_rules nodes_rules
hexed front t = then_read (unhex t) (λ bs. line (front ++ write_text bs) 0)

unfoldable pub signed_number : List ℕ → Option Line
unfolding then_read text_rules basics
signed_number t = then_read (signed64 t) (λ n. line (6 ∷ little 8 n) 0)

-- SCOPE:HEX, of which `scope` was read
unfoldable pub scoped_from : List ℕ → List ℕ → Option Line
unfolding then_read text_rules hexed basics
scoped_from scope [] = none
scoped_from scope (c ∷ cs) =
    elim (eqb c 58)
    [ true ↦ then_read (unsigned32 scope) (λ n. hexed (11 ∷ little 4 n) cs) | false ↦ scoped_from (scope ++ (c ∷ [])) cs ]

unfoldable pub scoped : List ℕ → Option Line
unfolding scoped_from
scoped t = scoped_from [] t

unfoldable pub forms : List Form
unfolding bare numbered hexed signed_number scoped basics
forms =
    form (ascii "bool=") (numbered 4 (λ n. 0))
    ∷ form (ascii "char=") (numbered 5 (λ n. 0))
    ∷ form (ascii "num=") signed_number
    ∷ form (ascii "str=") (hexed (7 ∷ []))
    ∷ form (ascii "sym=") (hexed (8 ∷ []))
    ∷ form (ascii "ident=") scoped
    ∷ form (ascii "nil=") (bare 1 0)
    ∷ form (ascii "eof=") (bare 2 0)
    ∷ form (ascii "undef=") (bare 0 0)
    ∷ form (ascii "void=") (bare 3 0)
    ∷ form (ascii "pair=") (bare 9 2)
    ∷ form (ascii "vec=") (numbered 10 (λ n. n))
    ∷ form (ascii "def=") (numbered 12 (λ n. 1))
    ∷ form (ascii "ref=") (numbered 13 (λ n. 0))
    ∷ []

unfoldable pub read_form : List Form → List ℕ → Option Line
unfolding value_of
read_form [] t = none
read_form (f ∷ fs) t = elim (value_of f.key t) [ none ↦ read_form fs t | some v ↦ f.read v ]

unfoldable pub node_line : List ℕ → Option Line
unfolding read_form forms
node_line t = read_form forms t

-- node lines up to `end=`, which is the last
unfoldable pub node_lines : List (List ℕ) → Option (List Line)
unfolding node_line then_read basics
node_lines [] = none
node_lines (t ∷ ts) =
    elim (same t (ascii "end=")) [
      | true ↦ elim ts [ [] ↦ some [] | u ∷ us ↦ none ]
      | false ↦ then_read (node_line t) (λ l. then_read (node_lines ts) (λ ls. some (l ∷ ls)))
    ]

-- ---- the sheet

pub record Sheet : Type 0 where
  pub chunk : ℕ
  pub slots : ℕ
  pub nodes : List Line

unfoldable pub header_line : List ℕ → List ℕ → Option ℕ
unfolding value_of then_read text_rules
header_line key t = then_read (value_of key t) unsigned32

unfoldable pub of_lines : List (List ℕ) → Option Sheet
unfolding header_line node_lines then_read basics
of_lines [] = none
of_lines (a ∷ []) = none
of_lines (a ∷ b ∷ ts) =
    then_read (header_line (ascii "chunk=") a)
    (λ c.
    then_read (header_line (ascii "slots=") b)
    (λ s. then_read (node_lines ts) (λ ls. some (record { chunk = c; slots = s; nodes = ls }))))

-- the sheet that a text is; none for bad text
unfoldable pub sheet : List ℕ → Option Sheet
unfolding lines of_lines then_read
sheet text = then_read (lines text) of_lines

-- ---- the data: a node and all that follows it; the last may be cut short by `end=`

-- the bytes of a datum begun, and how many data it still wants
unfoldable pub data_from : List ℕ → ℕ → List Line → List (List ℕ)
data_from begun wants [] = elim begun [ [] ↦ [] | b ∷ bs ↦ (b ∷ bs) ∷ [] ]
data_from begun wants (l ∷ ls) =
    elim (wants - 1 + l.follow)
    [ zero ↦ (begun ++ l.node) ∷ data_from [] 1 ls | suc n ↦ data_from (begun ++ l.node) (suc n) ls ]

unfoldable pub data_of : Sheet → List (List ℕ)
unfolding data_from
data_of s = data_from [] 1 s.nodes

unfoldable pub sheet_rules : Unit {0}
unfolding lines_from lines value_of then_read bare numbered hexed signed_number scoped_from scoped forms read_form node_line
    node_lines header_line of_lines sheet data_from data_of
sheet_rules = tt
