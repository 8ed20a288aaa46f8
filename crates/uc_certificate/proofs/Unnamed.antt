-- Types that `uc_system` keeps to itself, by what has them.
use Rattle.std.specs.Prelude.{ℕ, List, Option}
use Rattle.uc_system.specs.Lines.{Rule}
use Rattle.uc_system.specs.Header.{kind_of, header_lines}
use Rattle.uc_system.specs.Symbols.{symbols_in}

abbrev ValueOf : {V : Type 0} → Rule V → Type 0
ValueOf {V} rule = V

abbrev ChoiceOf : {A V : Type 0} → (A → Option V) → Type 0
ChoiceOf {A} {V} f = V

abbrev MemberOf : {V W : Type 0} → (List V → W) → Type 0
MemberOf {V} {W} f = V

abbrev pub Header : Type 0
Header = ValueOf header_lines

abbrev pub Kind : Type 0
Kind = ChoiceOf kind_of

abbrev pub Ranked : Type 0
Ranked = MemberOf symbols_in
