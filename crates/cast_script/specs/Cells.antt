-- What the code writes at a place, by the names of the definitions.
use Rattle.std.specs.Prelude.{ℕ, List}
use Rattle.cast_script.specs.declared.replay.Cell.{Cell}
use Rattle.cast_script.specs.declared.replay.Cell.TheVariants.{Word, Number, Digits}
use Rattle.cast_script.specs.declared.replay.Member.{Member}
use Rattle.cast_script.specs.Replay.{Atom, word, number, digits, atom_text}

abbrev pub atom_in : Cell → Atom
atom_in (Word s) = word s.now
atom_in (Number n) = number n
atom_in (Digits bytes) = digits bytes.now

abbrev pub cell_text : Cell → List ℕ
cell_text cell = atom_text (atom_in cell)

abbrev pub member_in : Member → List ℕ × Atom
member_in member = (member.name.now, atom_in member.value)
