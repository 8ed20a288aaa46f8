-- The first two lines, read one behind the other.
use Rattle.std.proofs.Common.{◌≡◌, ℕ, Bool, true, false, List, length, drop, refl, sym, ap, ◌∙◌, if◌then◌else◌, ◌&&◌, Option, Some, None}
use Rattle.std.specs.Prelude.{Ok, Err, bytes_eq, nat_eq}
use Rattle.std.specs.List.{starts_with}
use Rattle.uc_system.specs.declared.fault.SystemFault.{SystemFault}
use Rattle.uc_system.specs.declared.header.Kind.{Kind}
use Rattle.uc_system.specs.declared.header.Kind.TheVariants.{Paths}
use Rattle.uc_system.specs.declared.header.Heading.TheVariants.{Heavy, Light, OtherVersion, NoHeading}
use Rattle.uc_system.specs.declared.lines.Cursor.{Cursor}
use Rattle.uc_system.specs.Lines.{departs, goes_on, fails_first, pick}
use Rattle.uc_system.specs.Header.{heading_line, system_words, weighing_words, paths_line, heading_of, is_other_version, version_line, weighing_of, kind_of, is_light_path, header_lines}
use Rattle.uc_system.specs.Reads.{Gives}

heading_by : (a b s v is : Bool) → a ≡ false → b ≡ false → s ≡ true → v ≡ is → (if a then Heavy else (if b then Light else (if s && v then OtherVersion else NoHeading))) ≡ (if is then OtherVersion else NoHeading)
heading_by false false true v is p q r t = ap (λ x. if x then OtherVersion else NoHeading) t
heading_by w b s v is p q r t = absurd cc

pub heading_rest : (line digits : List ℕ) (is : Bool) → bytes_eq line (heading_line false) ≡ false → bytes_eq line (heading_line true) ≡ false → starts_with nat_eq line system_words ≡ true → digits ≡ drop (length system_words) line → is_other_version digits ≡ is → heading_of line ≡ (if is then OtherVersion else NoHeading)
heading_rest line digits is a b s d e = heading_by (bytes_eq line (heading_line false)) (bytes_eq line (heading_line true)) (starts_with nat_eq line system_words) (is_other_version (drop (length system_words) line)) is a b s (ap is_other_version (sym d) ∙ e)

kind_by : (a s : Bool) (k : Option Kind) → a ≡ false → s ≡ true → (if a then Some Paths else (if s then k else None)) ≡ k
kind_by false true k p q = refl
kind_by v s k p q = absurd cc

pub kind_rest : (line digits : List ℕ) → bytes_eq line paths_line ≡ false → starts_with nat_eq line weighing_words ≡ true → digits ≡ drop (length weighing_words) line → kind_of line ≡ weighing_of digits
kind_rest line digits a s d = kind_by (bytes_eq line paths_line) (starts_with nat_eq line weighing_words) (weighing_of (drop (length weighing_words) line)) a s ∙ ap weighing_of (sym d)

module _ (bytes : List ℕ) (at : Cursor) where
  pub no_version : (fault : SystemFault) → Gives version_line bytes at (Err fault) → Gives header_lines bytes at (Err fault)
  no_version fault h = goes_on refl (fails_first h)

  module _ (light : Bool) (middle : Cursor) (version : Gives version_line bytes at (Ok (light, middle))) where
    pub no_kind : (fault : SystemFault) → Gives (pick kind_of) bytes middle (Err fault) → Gives header_lines bytes at (Err fault)
    no_kind fault h = goes_on refl (goes_on version.0 (fails_first h))

    module _ (kind : Kind) (end : Cursor) (named : Gives (pick kind_of) bytes middle (Ok (kind, end))) where
      pub light_path : is_light_path light kind ≡ true → Gives header_lines bytes at (Err (departs at.number))
      light_path e = goes_on refl (goes_on version.0 (goes_on named.0 (fails_first (rw e refl))))

      pub right_header : is_light_path light kind ≡ false → Gives header_lines bytes at (Ok (record { first = at.number; light = light; kind = kind }, end))
      right_header e = (goes_on refl (goes_on version.0 (goes_on named.0 (goes_on {v = tt} (rw e refl) refl))), named.1)
