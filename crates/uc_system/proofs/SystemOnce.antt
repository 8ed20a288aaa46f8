-- A text reads as one system, or is refused for one reason.
use Rattle.std.proofs.Common.{◌≡◌, ℕ, List, [], ap}
use Rattle.std.specs.Prelude.{Result, Ok, Err}
use Rattle.uc_term.specs.Table.{Table, IsDistinct}
use Rattle.uc_system.specs.declared.fault.SystemFault.{SystemFault}
use Rattle.uc_system.specs.declared.header.Header.{Header}
use Rattle.uc_system.specs.declared.system.SystemText.{SystemText}
use Rattle.uc_system.specs.Lines.{departs, gets, fails}
use Rattle.uc_system.specs.Header.{header_lines}
use Rattle.uc_system.specs.Symbols.{symbols_in, symbol_lines, symbols_fault, are_complete}
use Rattle.uc_system.specs.Facts.{fact_lines}
use Rattle.uc_system.specs.Reading.{system_body, system_lines, ReadsSystem, reads, goes_further, fails_within}
use Rattle.uc_system.proofs.LinesOnce.{Once, both_once, gives_once, unless_once}
use Rattle.uc_system.proofs.HeaderOnce.{header_once}
use Rattle.uc_system.proofs.SymbolsOnce.{symbol_lines_once}
use Rattle.uc_system.proofs.FactsOnce.{fact_lines_once}
use Rattle.uc_system.proofs.Precedence.{symbols_printable}

module _ (table : Table) (d : IsDistinct table) where
  body_once : (header : Header) → Once (system_body table header)
  body_once header = both_once (symbol_lines table header) _ (symbol_lines_once table header d) (λ ss n m text rest x. both_once (are_complete table header ss) _ (λ n text o p. unless_once (symbols_fault table header ss n) n text o p) (λ u k l before behind y. both_once (fact_lines table (symbols_in ss)) _ (fact_lines_once table (symbols_in ss) (symbols_printable table header ss m rest x) d) (λ es i j a b z. gives_once _)))

  pub lines_once : Once (system_lines table)
  lines_once = both_once header_lines _ header_once (λ header n m text rest x. body_once header)

  pub system_once : (text : List ℕ) (a b : Result SystemText SystemFault) → ReadsSystem table text a → ReadsSystem table text b → a ≡ b
  system_once text _ _ (reads {n = n} {said = s} x) (reads {n = m} {said = t} y) =
      let e = lines_once 1 text (gets s n []) (gets t m []) x y in
      let same : s ≡ t = cc in
      ap Ok same
  system_once text _ _ (reads {n = n} {said = s} x) (goes_further {n = m} {said = t} {rest = r} y h) =
      let e = lines_once 1 text (gets t m r) (gets s n []) y x in
      absurd (let rests : r ≡ [] = cc in h rests)
  system_once text _ _ (reads {n = n} {said = s} x) (fails_within {fault = f} y) = absurd (let e = lines_once 1 text (gets s n []) (fails f) x y in cc)
  system_once text _ _ (goes_further {n = m} {said = t} {rest = r} y h) (reads {n = n} {said = s} x) =
      let e = lines_once 1 text (gets t m r) (gets s n []) y x in
      absurd (let rests : r ≡ [] = cc in h rests)
  system_once text _ _ (goes_further {n = n} {said = s} {rest = r} x h) (goes_further {n = m} {said = t} {rest = q} y k) =
      let e = lines_once 1 text (gets s n r) (gets t m q) x y in
      let numbers : n ≡ m = cc in
      ap (λ k. Err (departs k)) numbers
  system_once text _ _ (goes_further {n = n} {said = s} {rest = r} x h) (fails_within {fault = f} y) = absurd (let e = lines_once 1 text (gets s n r) (fails f) x y in cc)
  system_once text _ _ (fails_within {fault = f} x) (reads {n = n} {said = s} y) = absurd (let e = lines_once 1 text (gets s n []) (fails f) y x in cc)
  system_once text _ _ (fails_within {fault = f} x) (goes_further {n = n} {said = s} {rest = r} y h) = absurd (let e = lines_once 1 text (gets s n r) (fails f) y x in cc)
  system_once text _ _ (fails_within {fault = f} x) (fails_within {fault = g} y) =
      let e = lines_once 1 text (fails f) (fails g) x y in
      let same : f ≡ g = cc in
      ap Err same
