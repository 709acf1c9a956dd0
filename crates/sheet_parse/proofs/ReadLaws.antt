-- Clearing, the header's lines, and a line of the data as it is read. Assumes nothing.
use mathlib.Core.Path.{◌≡◌, refl, sym, ap, ◌∙◌, subst}
use mathlib.Core.Bool.{Bool, true, false}
use mathlib.Core.List.{List}
use mathlib.Core.Option.{Option, none, some}
use Prim.Native.Nat.{ℕ, ◌+◌, ◌-◌, ◌≤◌, ◌<◌}
use native.Mathlib.Omega.{arith}
use lib.Dec.{eqb}
use lib.ListN.{length, take, drop, length-drop}
use Rattle.laws.specs.Basics.{ascii, choose, same}
use Rattle.rules.specs.Sheet.{Line, node_line, header_line}
use Rattle.std.specs.Prelude as std
use Rattle.std.specs.Prelude.{None, Some}
use Rattle.sheet_nodes.specs.declared.Node.{Node}
use Rattle.sheet_keys.specs.Places.{first_from}
use Rattle.sheet_nodes.specs.Written.{Lined, line_answer, line_bytes, written_words}
use Rattle.sheet_lines.specs.Lines.{lines_words}
use Rattle.sheet_keys.proofs.KeyLaws.{placed}
use Rattle.sheet_nodes.proofs.NodeLaws.{then_none, then_some}
use Rattle.sheet_parse.specs.declared.Header.{Header}
use Rattle.sheet_parse.specs.declared.Reading.{Reading}
use Rattle.sheet_parse.specs.declared.Reading.TheVariants as reading
use Rattle.sheet_parse.specs.Steps.{line_number, header_at, HeaderRead, slots_after, FrontRead, Told, bad, last, node, line_told, told_at, LineRead, steps_words}

-- ---- the end of a line

pub record Between (at e n : ℕ) : Type 0 where
  pub from : at ≤ e
  pub inside : e < n

pub between : (t : List ℕ) (at e : ℕ) → first_from 10 at (drop at t) ≡ some e → Between at e (length t)
between t at e q =
    let p = placed 10 at (drop at t) e q in
    record { from = p.from; inside = omega (arith, p.from, p.inside, length-drop at t) }

-- ---- the header's lines

module _ (key t : List ℕ) (at : ℕ) where
  header_bad : header_at key t at ≡ none → HeaderRead key t at None
  header_bad e = record { is = sym e; inside = omega arith }

  pub no_end : none ≡ first_from 10 at (drop at t) → HeaderRead key t at None
  unfolding steps_words
  no_end e = header_bad (then_none (line_number key t at) (sym e))

  module _ (e : ℕ) (q : some e ≡ first_from 10 at (drop at t)) where
    pub no_number : none ≡ header_line key (take (e - at) (drop at t)) → HeaderRead key t at None
    unfolding steps_words
    no_number h = header_bad (then_some (line_number key t at) (sym q) ∙ then_none _ (sym h))

    pub a_number : (m : ℕ) → some m ≡ header_line key (take (e - at) (drop at t)) → HeaderRead key t at (Some (record { number = m; next = e + 1 }))
    unfolding steps_words
    a_number m h =
        record {
          is = sym (then_some (line_number key t at) (sym q) ∙ then_some _ (sym h));
          inside = omega (arith, (between t at e (sym q)).inside);
        }

module _ (t : List ℕ) where
  pub no_chunk : HeaderRead (ascii "chunk=") t 0 None → FrontRead t None
  unfolding steps_words
  no_chunk h = record { is = sym (then_none (slots_after t) (sym h.is)); inside = omega arith }

  module _ (a : Header) (h : HeaderRead (ascii "chunk=") t 0 (Some a)) where
    pub no_slots : HeaderRead (ascii "slots=") t a.next None → FrontRead t None
    unfolding steps_words
    no_slots k =
        record {
          is = sym (then_some (slots_after t) (sym h.is) ∙ then_none _ (sym k.is));
          inside = omega arith;
        }

    pub both_lines : (b : Header) → HeaderRead (ascii "slots=") t a.next (Some b) → FrontRead t (Some (record { chunk = a.number; slots = b.number; next = b.next }))
    unfolding steps_words
    both_lines b k =
        record {
          is = sym (then_some (slots_after t) (sym h.is) ∙ then_some _ (sym k.is));
          inside = k.inside;
        }

-- ---- a line of the data

module _ {before : List ℕ} {at : ℕ} where
  pub read_same : {after : List ℕ} {r : std.Option Reading} {x y : Told} → x ≡ y → LineRead before at x after r → LineRead before at y after r
  read_same {after} {r} e l = subst (λ (x : Told). LineRead before at x after r) e l

  read_bad : {x : Told} → x ≡ bad → LineRead before at x before None
  unfolding steps_words
  read_bad e = read_same (sym e) (record { answer = refl; bytes = refl })

  read_last : {x : Told} → x ≡ last → LineRead before at x before (Some reading.Last)
  unfolding steps_words
  read_last e = read_same (sym e) (record { answer = refl; bytes = refl })

module _ (before : List ℕ) (at : ℕ) (line : List ℕ) (next : ℕ) (ended : Bool) where
  module _ (s : true ≡ same line (ascii "end=")) where
    told_end : line_told line next ended ≡ choose ended last bad
    unfolding steps_words
    told_end =
        ap (λ (b : Bool). elim b [ true ↦ choose ended last bad | false ↦ elim (node_line line) [ none ↦ bad | some l ↦ node l next ] ]) (sym s)

    pub the_end : ended ≡ true → LineRead before at (line_told line next ended) before (Some reading.Last)
    the_end e = read_last (told_end ∙ ap (λ (b : Bool). choose b last bad) e)

    pub end_early : ended ≡ false → LineRead before at (line_told line next ended) before None
    end_early e = read_bad (told_end ∙ ap (λ (b : Bool). choose b last bad) e)

  module _ (s : false ≡ same line (ascii "end=")) (after : List ℕ) where
    told_line : line_told line next ended ≡ elim (node_line line) [ none ↦ bad | some l ↦ node l next ]
    unfolding steps_words
    told_line =
        ap (λ (b : Bool). elim b [ true ↦ choose ended last bad | false ↦ elim (node_line line) [ none ↦ bad | some l ↦ node l next ] ]) (sym s)

    by_bad : (o : Option Line) → None ≡ line_answer o → after ≡ line_bytes before at o → LineRead before at (elim o [ none ↦ bad | some l ↦ node l next ]) after None
    unfolding steps_words first_from written_words lines_words
    by_bad none a b = record { answer = refl; bytes = b }
    by_bad (some l) a b = let z : ◌≡◌ {A = ℕ} 0 1 = cc in absurd (omega arith)

    pub bad_line : Lined before at (node_line line) after None → LineRead before at (line_told line next ended) after None
    bad_line w = read_same (sym told_line) (by_bad (node_line line) w.answer w.bytes)

    by_node : (o : Option Line) (n : Node) → Some n ≡ line_answer o → after ≡ line_bytes before at o → LineRead before at (elim o [ none ↦ bad | some l ↦ node l next ]) after (Some (reading.Node n next))
    unfolding steps_words first_from written_words lines_words
    by_node none n a b = let z : ◌≡◌ {A = ℕ} 0 1 = cc in absurd (omega arith)
    by_node (some l) n a b =
        let s : n ≡ record { size = length l.node; follow = l.follow } = cc in
        record { answer = λ j. Some (reading.Node (s j) next); bytes = b }

    pub good_line : (n : Node) → Lined before at (node_line line) after (Some n) → LineRead before at (line_told line next ended) after (Some (reading.Node n next))
    good_line n w = read_same (sym told_line) (by_node (node_line line) n w.answer w.bytes)

module _ (t : List ℕ) (at : ℕ) where
  pub told_none : first_from 10 at (drop at t) ≡ none → told_at t at ≡ bad
  unfolding steps_words
  told_none e =
      ap (λ (o : Option ℕ). elim o [ none ↦ bad | some e ↦ line_told (take (e - at) (drop at t)) (e + 1) (eqb (e + 1) (length t)) ]) e

  pub told_some : (e : ℕ) → first_from 10 at (drop at t) ≡ some e → told_at t at ≡ line_told (take (e - at) (drop at t)) (e + 1) (eqb (e + 1) (length t))
  unfolding steps_words
  told_some e q =
      ap (λ (o : Option ℕ). elim o [ none ↦ bad | some e ↦ line_told (take (e - at) (drop at t)) (e + 1) (eqb (e + 1) (length t)) ]) q

  pub none_at : {before : List ℕ} {used : ℕ} → none ≡ first_from 10 at (drop at t) → LineRead before used (told_at t at) before None
  none_at e = read_bad (told_none (sym e))
