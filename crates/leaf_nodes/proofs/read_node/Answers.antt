-- `leaf_nodes::read_node`: by the kind, one case each. Assumes nothing.
use Rattle.std.proofs.Common.{◌+◌, Ok, Err, sym, refl, ◌∙◌, arith}
use Rattle.rules.specs.Nodes.{reads, plain, string, symbol, ident, ref, atom, vector, def, text, bool_node, char_node, nodes_rules}
use Rattle.rules.specs.Cells.{number}
use Rattle.leaf_cells.specs.declared.Value.TheVariants as value
use Rattle.leaf_nodes.specs.declared.Fault.TheVariants as fault
use Rattle.leaf_nodes.specs.declared.Node.TheVariants as node
use Rattle.leaf_nodes.proofs.Laws.{read_none, text_from, read_fault, read_good, text_shown, no_kind}
use Rattle.leaf_nodes.proofs.read_node.Goals as goal

pub returns-in_default : goal.returns-in_default
returns-in_default c = read_none c.args.datum.now c.in_default.ensures.cases

pub returns-in-0 : goal.returns-in-0
unfolding nodes_rules
returns-in-0 c = read_good c.in-Some.ensures.cases.0 c.in-0.is c.type_inv.datum (node.Plain value.Undefined) 1 c.sized.ensures refl refl (omega arith) (omega arith)

pub returns-in-1 : goal.returns-in-1
unfolding nodes_rules
returns-in-1 c = read_good c.in-Some.ensures.cases.0 c.in-1.is c.type_inv.datum (node.Plain value.Nil) 1 c.sized-in-1.ensures refl refl (omega arith) (omega arith)

pub returns-in-2 : goal.returns-in-2
unfolding nodes_rules
returns-in-2 c = read_good c.in-Some.ensures.cases.0 c.in-2.is c.type_inv.datum (node.Plain value.Eof) 1 c.sized-in-2.ensures refl refl (omega arith) (omega arith)

pub returns-in-3 : goal.returns-in-3
unfolding nodes_rules
returns-in-3 c = read_good c.in-Some.ensures.cases.0 c.in-3.is c.type_inv.datum (node.Plain value.Void) 1 c.sized-in-3.ensures refl refl (omega arith) (omega arith)

pub returns-in_err-first_u32-in-4 : goal.returns-in_err-first_u32-in-4
unfolding nodes_rules
returns-in_err-first_u32-in-4 c = read_fault c.in-Some.ensures.cases.0 c.in-4.is c.type_inv.datum _ (grind arith) (c.in_err-first_u32-in-4.ensures.is bool_node)

pub returns-in_err-bool_value-in-4 : goal.returns-in_err-bool_value-in-4
unfolding nodes_rules
returns-in_err-bool_value-in-4 c = read_fault c.in-Some.ensures.cases.0 c.in-4.is c.type_inv.datum _ (grind arith) (c.in_ok-first_u32-in-4.ensures.is bool_node ∙ sym (c.in_err-bool_value-in-4.ensures.value _))

pub returns-in_ok-bool_value-in-4 : goal.returns-in_ok-bool_value-in-4
unfolding nodes_rules
returns-in_ok-bool_value-in-4 c = read_good c.in-Some.ensures.cases.0 c.in-4.is c.type_inv.datum (node.Plain c.in_ok-bool_value-in-4.field-0) 5 c.sized-in-4.ensures (c.in_ok-first_u32-in-4.ensures.is bool_node ∙ sym (c.in_ok-bool_value-in-4.ensures.value _)) c.in_ok-bool_value-in-4.ensures.scalar (omega (arith, c.in_ok-first_u32-in-4.ensures.inside)) (omega arith)

pub returns-in_err-first_u32-in-5 : goal.returns-in_err-first_u32-in-5
unfolding nodes_rules
returns-in_err-first_u32-in-5 c = read_fault c.in-Some.ensures.cases.0 c.in-5.is c.type_inv.datum _ (grind arith) (c.in_err-first_u32-in-5.ensures.is char_node)

pub returns-in_err-char_value-in-5 : goal.returns-in_err-char_value-in-5
unfolding nodes_rules
returns-in_err-char_value-in-5 c = read_fault c.in-Some.ensures.cases.0 c.in-5.is c.type_inv.datum _ (grind arith) (c.in_ok-first_u32-in-5.ensures.is char_node ∙ sym (c.in_err-char_value-in-5.ensures.value _))

pub returns-in_ok-char_value-in-5 : goal.returns-in_ok-char_value-in-5
unfolding nodes_rules
returns-in_ok-char_value-in-5 c = read_good c.in-Some.ensures.cases.0 c.in-5.is c.type_inv.datum (node.Plain c.in_ok-char_value-in-5.field-0) 5 c.sized-in-5.ensures (c.in_ok-first_u32-in-5.ensures.is char_node ∙ sym (c.in_ok-char_value-in-5.ensures.value _)) c.in_ok-char_value-in-5.ensures.scalar (omega (arith, c.in_ok-first_u32-in-5.ensures.inside)) (omega arith)

pub returns-in_err-first_u64-in-6 : goal.returns-in_err-first_u64-in-6
unfolding nodes_rules
returns-in_err-first_u64-in-6 c = read_fault c.in-Some.ensures.cases.0 c.in-6.is c.type_inv.datum _ (grind arith) (c.in_err-first_u64-in-6.ensures.is (λ n. reads (atom (plain (number n)))))

pub returns-in_ok-first_u64-in-6 : goal.returns-in_ok-first_u64-in-6
unfolding nodes_rules
returns-in_ok-first_u64-in-6 c = read_good c.in-Some.ensures.cases.0 c.in-6.is c.type_inv.datum (node.Plain (value.Number c.in_ok-first_u64-in-6.field-0)) 9 c.sized-in-6.ensures (c.in_ok-first_u64-in-6.ensures.is (λ n. reads (atom (plain (number n))))) refl (omega (arith, c.in_ok-first_u64-in-6.ensures.inside)) (omega arith)

pub returns-in_err-n-in-7 : goal.returns-in_err-n-in-7
unfolding nodes_rules
returns-in_err-n-in-7 c = read_fault c.in-Some.ensures.cases.0 c.in-7.is c.type_inv.datum _ (grind arith) (c.in_err-n-in-7.ensures.is (λ t. atom (string t)))

pub returns-in_ok-n-in-7 : goal.returns-in_ok-n-in-7
unfolding nodes_rules
returns-in_ok-n-in-7 c = let n = c.in_ok-n-in-7.n in read_good c.in-Some.ensures.cases.0 c.in-7.is c.type_inv.datum (node.String n) (n + 5) c.sized-in-7.ensures (c.in_ok-n-in-7.ensures.is (λ t. atom (string t)) ∙ text_shown 0 7 c.in-Some.rest.now n (λ t. atom (string t))) refl (omega (arith, c.in_ok-n-in-7.ensures.inside)) (omega arith)

pub returns-in_err-n-in-8 : goal.returns-in_err-n-in-8
unfolding nodes_rules
returns-in_err-n-in-8 c = read_fault c.in-Some.ensures.cases.0 c.in-8.is c.type_inv.datum _ (grind arith) (c.in_err-n-in-8.ensures.is (λ t. atom (symbol t)))

pub returns-in_ok-n-in-8 : goal.returns-in_ok-n-in-8
unfolding nodes_rules
returns-in_ok-n-in-8 c = let n = c.in_ok-n-in-8.n in read_good c.in-Some.ensures.cases.0 c.in-8.is c.type_inv.datum (node.Symbol n) (n + 5) c.sized-in-8.ensures (c.in_ok-n-in-8.ensures.is (λ t. atom (symbol t)) ∙ text_shown 0 8 c.in-Some.rest.now n (λ t. atom (symbol t))) refl (omega (arith, c.in_ok-n-in-8.ensures.inside)) (omega arith)

pub returns-in-9 : goal.returns-in-9
unfolding nodes_rules
returns-in-9 c = read_good c.in-Some.ensures.cases.0 c.in-9.is c.type_inv.datum node.Pair 1 c.sized-in-9.ensures refl refl (omega arith) (omega arith)

pub returns-in_err-first_u32-in-10 : goal.returns-in_err-first_u32-in-10
unfolding nodes_rules
returns-in_err-first_u32-in-10 c = read_fault c.in-Some.ensures.cases.0 c.in-10.is c.type_inv.datum _ (grind arith) (c.in_err-first_u32-in-10.ensures.is (λ n. reads (vector n)))

pub returns-in_ok-first_u32-in-10 : goal.returns-in_ok-first_u32-in-10
unfolding nodes_rules
returns-in_ok-first_u32-in-10 c = read_good c.in-Some.ensures.cases.0 c.in-10.is c.type_inv.datum (node.Vector c.in_ok-first_u32-in-10.field-0) 5 c.sized-in-10.ensures (c.in_ok-first_u32-in-10.ensures.is (λ n. reads (vector n))) refl (omega (arith, c.in_ok-first_u32-in-10.ensures.inside)) (omega arith)

pub returns-in_err-first_u32-in-12 : goal.returns-in_err-first_u32-in-12
unfolding nodes_rules
returns-in_err-first_u32-in-12 c = read_fault c.in-Some.ensures.cases.0 c.in-12.is c.type_inv.datum _ (grind arith) (c.in_err-first_u32-in-12.ensures.is (λ l. reads (def l)))

pub returns-in_ok-first_u32-in-12 : goal.returns-in_ok-first_u32-in-12
unfolding nodes_rules
returns-in_ok-first_u32-in-12 c = read_good c.in-Some.ensures.cases.0 c.in-12.is c.type_inv.datum (node.Def c.in_ok-first_u32-in-12.field-0) 5 c.sized-in-12.ensures (c.in_ok-first_u32-in-12.ensures.is (λ l. reads (def l))) refl (omega (arith, c.in_ok-first_u32-in-12.ensures.inside)) (omega arith)

pub returns-in_err-first_u32-in-13 : goal.returns-in_err-first_u32-in-13
unfolding nodes_rules
returns-in_err-first_u32-in-13 c = read_fault c.in-Some.ensures.cases.0 c.in-13.is c.type_inv.datum _ (grind arith) (c.in_err-first_u32-in-13.ensures.is (λ l. reads (atom (ref l))))

pub returns-in_ok-first_u32-in-13 : goal.returns-in_ok-first_u32-in-13
unfolding nodes_rules
returns-in_ok-first_u32-in-13 c = read_good c.in-Some.ensures.cases.0 c.in-13.is c.type_inv.datum (node.Ref c.in_ok-first_u32-in-13.field-0) 5 c.sized-in-13.ensures (c.in_ok-first_u32-in-13.ensures.is (λ l. reads (atom (ref l)))) refl (omega (arith, c.in_ok-first_u32-in-13.ensures.inside)) (omega arith)

pub returns-in_err-scope-in-11 : goal.returns-in_err-scope-in-11
unfolding nodes_rules
returns-in_err-scope-in-11 c = read_fault c.in-Some.ensures.cases.0 c.in-11.is c.type_inv.datum _ (grind arith) (c.in_err-scope-in-11.ensures.is (λ s. text (λ t. atom (ident s t))))

pub returns-in_err-n-in-11 : goal.returns-in_err-n-in-11
unfolding nodes_rules
returns-in_err-n-in-11 c =
    let scope = c.in_ok-scope-in-11.scope in
    let f = c.in_err-n-in-11.field-0.0 in
    read_fault c.in-Some.ensures.cases.0 c.in-11.is c.type_inv.datum f (grind arith)
    (c.in_ok-scope-in-11.ensures.is (λ s. text (λ t. atom (ident s t)))
    ∙ text_from 4 c.in-Some.rest.now (Err f) (λ t. atom (ident scope t)) c.in_err-n-in-11.ensures)

pub returns-in_ok-n-in-11 : goal.returns-in_ok-n-in-11
unfolding nodes_rules
returns-in_ok-n-in-11 c =
    let scope = c.in_ok-scope-in-11.scope in
    let n = c.in_ok-n-in-11.n in
    read_good c.in-Some.ensures.cases.0 c.in-11.is c.type_inv.datum (node.Ident scope n) (n + 9) c.sized-in-11.ensures
    (c.in_ok-scope-in-11.ensures.is (λ s. text (λ t. atom (ident s t)))
    ∙ text_from 4 c.in-Some.rest.now (Ok n) (λ t. atom (ident scope t)) c.in_ok-n-in-11.ensures
    ∙ text_shown 4 11 c.in-Some.rest.now n (λ t. atom (ident scope t))) refl
    (omega (arith, c.in_ok-scope-in-11.ensures.inside, c.in_ok-n-in-11.ensures.inside)) (omega arith)

pub returns-in_default-kind : goal.returns-in_default-kind
unfolding nodes_rules
returns-in_default-kind c = read_fault c.in-Some.ensures.cases.0 refl c.type_inv.datum fault.UnknownKind refl (no_kind c.in-Some.kind.now _ (omega arith))
