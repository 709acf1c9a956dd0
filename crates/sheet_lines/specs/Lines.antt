-- The forms of a line, each by its place in the rules' list. Assumes nothing.
use Rattle.std.specs.Prelude.{◌≡◌, List, [], ◌∷◌, ℕ, ◌+◌, ◌≤◌, length, get_or, take, drop, Option, Some, None, IfSome}
use Rattle.std.specs.Borrow.{Bor}
use Rattle.std.proofs.Math.Option as maybe
use Rattle.std.proofs.Math.Option.{none}
use Rattle.laws.specs.Basics.{little}
use Rattle.rules.specs.Sheet as rules
use Rattle.rules.specs.Sheet.{Line, then_read, hexed, forms, read_form}
use Rattle.rules.specs.Text.{unsigned32}
use Rattle.sheet_lines.specs.declared.Form as code
use Rattle.sheet_lines.specs.declared.Form.TheVariants as form

abbrev pub no_form : rules.Form
no_form = record { key = []; read = λ t. none }

-- the form at a place of the list
unfoldable pub form_at : ℕ → rules.Form
form_at k = get_or forms k no_form

unfoldable pub form_of : code.Form → rules.Form
unfolding form_at
form_of form.Bool = form_at 0
form_of form.Char = form_at 1
form_of form.Num = form_at 2
form_of form.Str = form_at 3
form_of form.Sym = form_at 4
form_of form.Ident = form_at 5
form_of form.Nil = form_at 6
form_of form.Eof = form_at 7
form_of form.Undef = form_at 8
form_of form.Void = form_at 9
form_of form.Pair = form_at 10
form_of form.Vec = form_at 11
form_of form.Def = form_at 12
form_of form.Ref = form_at 13

-- how the value of a line of a form is read
unfoldable pub form_value : Option (code.Form × Bor (List ℕ)) → maybe.Option Line
unfolding form_of
form_value None = none
form_value (Some p) = (form_of p.0).read p.1.now

pub record FormRead (line : List ℕ) (r : Option (code.Form × Bor (List ℕ))) : Type 0 where
  pub is : read_form forms line ≡ form_value r
  pub inside : IfSome r (λ p. length p.1.now ≤ length line)

-- SCOPE:HEX with the colon at a place
unfoldable pub scoped_at : List ℕ → ℕ → maybe.Option Line
scoped_at t p = then_read (unsigned32 (take p t)) (λ n. hexed (11 ∷ little 4 n) (drop (p + 1) t))

unfoldable pub lines_words : Unit {0}
unfolding form_at form_of form_value scoped_at
lines_words = tt
