-- `heap_atoms::put_atom`: by the shape of the node, a scalar, a text, a name or a reference. Assumes nothing.
use Rattle.heap_atoms.proofs.Atoms.{inside_text, handed, plain_done, ref_done, string_open_on, string_done_on, symbol_open_on, symbol_done_on, ident_open_on, ident_done_on, never_faulty, never_tree, answered}
use Rattle.heap_atoms.proofs.put_atom.Goals as goal

-- src/lib.rt:66:24
pub overflow_sub-from : goal.overflow_sub-from
overflow_sub-from c = inside_text c.requires.0 c.requires.1 c.requires.2 c.requires.3 c.requires.4 _ _ _ _ _ _ c.requires.5 _ c.in-Ok.ensures _ c.in-String.is

-- src/lib.rt:67:17
pub put_string-s-requires : goal.put_string-s-requires
put_string-s-requires c = (_, _, _, string_open_on c.requires.0 c.requires.1 c.requires.2 c.requires.3 c.requires.4 _ _ _ _ _ _ c.requires.5 _ c.in-Ok.ensures _ _ c.in-String.is (handed c.requires.0 c.requires.1 c.requires.2 c.requires.3 c.requires.4 _ _ _ _ _ _ c.requires.5 _ c.in-Ok.ensures _ (inside_text c.requires.0 c.requires.1 c.requires.2 c.requires.3 c.requires.4 _ _ _ _ _ _ c.requires.5 _ c.in-Ok.ensures _ c.in-String.is)))

-- src/lib.rt:71:24
pub overflow_sub-from-in-Symbol : goal.overflow_sub-from-in-Symbol
overflow_sub-from-in-Symbol c = inside_text c.requires.0 c.requires.1 c.requires.2 c.requires.3 c.requires.4 _ _ _ _ _ _ c.requires.5 _ c.in-Ok.ensures _ c.in-Symbol.is

-- src/lib.rt:72:17
pub put_symbol-s-requires : goal.put_symbol-s-requires
put_symbol-s-requires c = (_, _, _, symbol_open_on c.requires.0 c.requires.1 c.requires.2 c.requires.3 c.requires.4 _ _ _ _ _ _ c.requires.5 _ c.in-Ok.ensures _ _ c.in-Symbol.is (handed c.requires.0 c.requires.1 c.requires.2 c.requires.3 c.requires.4 _ _ _ _ _ _ c.requires.5 _ c.in-Ok.ensures _ (inside_text c.requires.0 c.requires.1 c.requires.2 c.requires.3 c.requires.4 _ _ _ _ _ _ c.requires.5 _ c.in-Ok.ensures _ c.in-Symbol.is)))

-- src/lib.rt:76:24
pub overflow_sub-from-in-Ident : goal.overflow_sub-from-in-Ident
overflow_sub-from-in-Ident c = inside_text c.requires.0 c.requires.1 c.requires.2 c.requires.3 c.requires.4 _ _ _ _ _ _ c.requires.5 _ c.in-Ok.ensures _ c.in-Ident.is

-- src/lib.rt:77:17
pub put_symbol-s-requires-in-Ident : goal.put_symbol-s-requires-in-Ident
put_symbol-s-requires-in-Ident c = (_, _, _, ident_open_on c.requires.0 c.requires.1 c.requires.2 c.requires.3 c.requires.4 _ _ _ _ _ _ c.requires.5 _ c.in-Ok.ensures _ _ _ c.in-Ident.is (handed c.requires.0 c.requires.1 c.requires.2 c.requires.3 c.requires.4 _ _ _ _ _ _ c.requires.5 _ c.in-Ok.ensures _ (inside_text c.requires.0 c.requires.1 c.requires.2 c.requires.3 c.requires.4 _ _ _ _ _ _ c.requires.5 _ c.in-Ok.ensures _ c.in-Ident.is)))

-- src/lib.rt:56:1
pub returns-in-Plain : goal.returns-in-Plain
returns-in-Plain c = λ r f m a rest t. answered r m a _ _ _ _ _ _ _ _ c.put_as.ensures (plain_done r f m a rest _ _ _ _ _ _ t _ c.in-Ok.ensures _ c.in-Plain.is)

-- src/lib.rt:56:1
pub returns-in-String : goal.returns-in-String
returns-in-String c = λ r f m a rest t. answered r m a _ _ _ _ _ _ _ _ c.put_as-in-String.ensures (string_done_on r f m a rest _ _ _ _ _ _ t _ c.in-Ok.ensures _ _ _ _ _ _ c.in-String.is (handed r f m a rest _ _ _ _ _ _ t _ c.in-Ok.ensures _ (inside_text r f m a rest _ _ _ _ _ _ t _ c.in-Ok.ensures _ c.in-String.is)) (c.put_string-s.ensures _ _ _ (string_open_on r f m a rest _ _ _ _ _ _ t _ c.in-Ok.ensures _ _ c.in-String.is (handed r f m a rest _ _ _ _ _ _ t _ c.in-Ok.ensures _ (inside_text r f m a rest _ _ _ _ _ _ t _ c.in-Ok.ensures _ c.in-String.is)))))

-- src/lib.rt:56:1
pub returns-in-Symbol : goal.returns-in-Symbol
returns-in-Symbol c = λ r f m a rest t. answered r m a _ _ _ _ _ _ _ _ c.put_as-in-Symbol.ensures (symbol_done_on r f m a rest _ _ _ _ _ _ t _ c.in-Ok.ensures _ _ _ _ _ _ c.in-Symbol.is (handed r f m a rest _ _ _ _ _ _ t _ c.in-Ok.ensures _ (inside_text r f m a rest _ _ _ _ _ _ t _ c.in-Ok.ensures _ c.in-Symbol.is)) (c.put_symbol-s.ensures _ _ _ (symbol_open_on r f m a rest _ _ _ _ _ _ t _ c.in-Ok.ensures _ _ c.in-Symbol.is (handed r f m a rest _ _ _ _ _ _ t _ c.in-Ok.ensures _ (inside_text r f m a rest _ _ _ _ _ _ t _ c.in-Ok.ensures _ c.in-Symbol.is)))))

-- src/lib.rt:56:1
pub returns-in-Ident : goal.returns-in-Ident
returns-in-Ident c = λ r f m a rest t. answered r m a _ _ _ _ _ _ _ _ c.put_as-in-Ident.ensures (ident_done_on r f m a rest _ _ _ _ _ _ t _ c.in-Ok.ensures _ _ _ _ _ _ _ c.in-Ident.is (handed r f m a rest _ _ _ _ _ _ t _ c.in-Ok.ensures _ (inside_text r f m a rest _ _ _ _ _ _ t _ c.in-Ok.ensures _ c.in-Ident.is)) (c.put_symbol-s-in-Ident.ensures _ _ _ (ident_open_on r f m a rest _ _ _ _ _ _ t _ c.in-Ok.ensures _ _ _ c.in-Ident.is (handed r f m a rest _ _ _ _ _ _ t _ c.in-Ok.ensures _ (inside_text r f m a rest _ _ _ _ _ _ t _ c.in-Ok.ensures _ c.in-Ident.is)))))

-- src/lib.rt:56:1
pub returns-in-Ref : goal.returns-in-Ref
returns-in-Ref c = λ r f m a rest t. answered r m a _ _ _ _ _ _ _ _ c.put_as-in-Ref.ensures (ref_done r f m a rest _ _ _ _ _ _ t _ c.in-Ok.ensures _ _ c.in-Ref.is c.slot_of.ensures)

pub unreachable-requires : goal.unreachable-requires
unreachable-requires c = never_faulty c.requires.0 c.requires.1 c.requires.2 c.requires.3 c.requires.4 _ _ _ _ _ _ c.requires.5 c.in_default.field-0 c.in_default.ensures

pub unreachable-requires-in-Pair : goal.unreachable-requires-in-Pair
unreachable-requires-in-Pair c = never_tree c.requires.0 c.requires.1 c.requires.2 c.requires.3 c.requires.4 _ _ _ _ _ _ c.requires.5 _ c.in-Ok.ensures c.in-Pair.is
