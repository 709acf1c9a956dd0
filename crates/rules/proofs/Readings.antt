-- The fourteen readings of document 01, with one proof over the list: the definitions compute to what the paper says.
-- Assumes nothing.
use mathlib.Core.Path.{◌≡◌, refl}
use mathlib.Core.Bool.{true, false}
use mathlib.Core.List.{List, [], ◌∷◌}
use mathlib.Core.Option.{some}
use Rattle.laws.specs.Basics.{ascii, basics}
use Rattle.rules.specs.Refusals.{accepted, refused, no_slots}
use Rattle.rules.specs.Cells.{undefined, slot, plain, pair, vector, block}
use Rattle.rules.specs.Nodes.{Atom}
use Rattle.rules.specs.Datum.{Datum}
use Rattle.rules.specs.Readings.{Result, answers, sizes, taken, free_list, text, read_back, byte, equals, same_object, readings, readings_rules, num, foo, empty, after_both, root, second_root}
use Rattle.rules.specs.Equal.{Equal}
use Rattle.rules.proofs.EqualLaws.{equal_yes, equal_no}

-- 1 chunk 4, lent 8: slots 0,1,2,3,7. 2 lent 7: the fifth is 16. 3 lent 24: sizes 4, 8, 12, 20, then 16. 4 (1 . 2) fresh:
-- pair at 2 of (0,1). 5 #(1 2): slot 0 only. 6 #0=#0#: slot 0, Undefined. 7 the listing. 8 then collecting root 0: list
-- 2,3. 9 reading slot 2 of 7. 10 byte 73. 11 (1 . foo) put twice: not equal. 12 (1 2) put twice: equal. 13 two strings
-- of like content: eqv. 14 Void, Void: not eqv.
abbrev pub paper : List Result
unfolding basics
paper =
    answers (accepted 0 ∷ accepted 1 ∷ accepted 2 ∷ accepted 3 ∷ accepted 7 ∷ [])
    ∷ answers (accepted 0 ∷ accepted 1 ∷ accepted 2 ∷ accepted 3 ∷ refused no_slots ∷ [])
    ∷ sizes (4 ∷ 4 ∷ 4 ∷ 4 ∷ 8 ∷ 8 ∷ 8 ∷ 8 ∷ 12 ∷ 12 ∷ 12 ∷ 12 ∷ 20 ∷ 20 ∷ 20 ∷ 20 ∷ 20 ∷ 20 ∷ 20 ∷ 20 ∷ []) (refused no_slots)
    ∷ taken 2 (pair 0 1) (3 ∷ [])
    ∷ taken 0 (vector (block 0 2)) (1 ∷ 2 ∷ 3 ∷ [])
    ∷ taken 0 (plain undefined) (1 ∷ 2 ∷ 3 ∷ [])
    ∷ text
    (ascii "root=0\ncapacity=4\nfree=1\nfreelist=3\nslot0=pair:1,0\nslot1=num:1\nslot2=pair:1,0\nslot3=free\n")
    ∷ free_list (2 ∷ 3 ∷ [])
    ∷ read_back (some (Datum.pair (num 1) (Datum.def 0 (Datum.pair (num 1) (Datum.atom (Atom.ref 0))))))
    ∷ byte 73
    ∷ equals (some false)
    ∷ equals (some true)
    ∷ same_object true
    ∷ same_object false
    ∷ []

pub fourteen : readings ≡ paper
unfolding readings_rules basics
fourteen = refl

-- 11 and 12 as facts about `equal`: what was computed is its answer
abbrev dotted : Datum
dotted = Datum.pair (num 1) foo

abbrev listed : Datum
listed = Datum.pair (num 1) (Datum.pair (num 2) empty)

pub eleven : Equal (after_both dotted) (slot (root dotted)) (slot (second_root dotted)) false
unfolding readings_rules
eleven = equal_no (after_both dotted) 100 (slot (root dotted)) (slot (second_root dotted)) refl

pub twelve : Equal (after_both listed) (slot (root listed)) (slot (second_root listed)) true
unfolding readings_rules
twelve = equal_yes (after_both listed) 100 (slot (root listed)) (slot (second_root listed)) refl
