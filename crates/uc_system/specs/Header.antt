-- The first two lines of a system's text:
--
--   % system 1              or % system 2, where a symbol weighs 0
--   % order kbo W0          or % order lpo
--
-- A number in place of the first line's that is neither 1 nor 2 is of another version.
use Rattle.std.specs.Prelude.{◌≡◌, ℕ, ◌+◌, ◌==◌, ◌&&◌, ◌||◌, not, nat_le, nat_eq, Bool, true, false, List, drop, length, codes, bytes_eq, Option, Some, None, if◌then◌else◌}
use Rattle.std.specs.List.{starts_with}
use Rattle.uc_clause.specs.Bytes.{is_digits}
use Rattle.uc_ordering.specs.Weights.{MAX_WEIGHT}
use Rattle.uc_system.specs.declared.fault.SystemFault.{SystemFault}
use Rattle.uc_system.specs.declared.fault.SystemFault.TheVariants.{Version}
use Rattle.uc_system.specs.declared.header.Kind.{Kind}
use Rattle.uc_system.specs.declared.header.Kind.TheVariants.{Weighing, Paths}
use Rattle.uc_system.specs.declared.header.Header.{Header}
use Rattle.uc_system.specs.declared.header.Heading.{Heading}
use Rattle.uc_system.specs.declared.header.Heading.TheVariants.{Heavy, Light, OtherVersion, NoHeading}
use Rattle.uc_system.specs.Numerals.{is_numeral, value_of}
use Rattle.uc_system.specs.Lines.{Cut, first_line, place_in, departs, Outcome, gets, fails, Rule, ◌>>=◌, gives, here, pick, unless}

abbrev pub system_words : List ℕ
system_words = codes "% system "

abbrev pub weighing_words : List ℕ
weighing_words = codes "% order kbo "

abbrev pub paths_line : List ℕ
paths_line = codes "% order lpo"

-- the first line, where a symbol weighs 0 or where none does
abbrev pub heading_line : Bool → List ℕ
heading_line light = if light then codes "% system 2" else codes "% system 1"

-- digits of another number than 1 and 2
abbrev pub is_other_version : List ℕ → Bool
is_other_version ds = is_digits ds && not (value_of ds == 1 || value_of ds == 2)

-- what a first line says
abbrev pub heading_of : List ℕ → Heading
heading_of line =
    if bytes_eq line (heading_line false) then Heavy
    else (if bytes_eq line (heading_line true) then Light
    else (if starts_with nat_eq line system_words && is_other_version (drop (length system_words) line) then OtherVersion else NoHeading))

-- whether a symbol is said to weigh 0
abbrev pub version_by : Heading → ℕ → List ℕ → Outcome Bool
version_by Heavy n rest = gets false (n + 1) rest
version_by Light n rest = gets true (n + 1) rest
version_by OtherVersion n rest = fails (Version (place_in n (length system_words)))
version_by NoHeading n rest = fails (departs n)

abbrev pub version_of : ℕ → Option Cut → Outcome Bool
version_of n None = fails (departs n)
version_of n (Some c) = version_by (heading_of c.line) n c.rest

abbrev pub version_line : Rule Bool
version_line n text outcome = outcome ≡ version_of n (first_line text)

-- the weight of a variable: a numeral from 1 to 1,000,000
abbrev pub weighing_of : List ℕ → Option Kind
weighing_of ds = if is_numeral ds && (nat_le 1 (value_of ds) && nat_le (value_of ds) MAX_WEIGHT) then Some (Weighing (value_of ds)) else None

-- the order whose name stands in a line
abbrev pub kind_of : List ℕ → Option Kind
kind_of line =
    if bytes_eq line paths_line then Some Paths
    else (if starts_with nat_eq line weighing_words then weighing_of (drop (length weighing_words) line) else None)

-- a path order has no weights, so none of its symbols can be the one that the first line speaks of
abbrev pub is_light_path : Bool → Kind → Bool
is_light_path light (Weighing w0) = false
is_light_path light Paths = light

abbrev pub kind_fault : ℕ → Bool → Kind → Option SystemFault
kind_fault first light kind = if is_light_path light kind then Some (departs first) else None

abbrev pub header_lines : Rule Header
header_lines = do
  first ← here
  light ← version_line
  kind ← pick kind_of
  _ ← unless (kind_fault first light kind)
  gives (record { first = first; light = light; kind = kind })
