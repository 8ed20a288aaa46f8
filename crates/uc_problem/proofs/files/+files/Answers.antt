use Rattle.std.proofs.Common.{◌≡◌, ◌+◌, ℕ, List, [], None, Err, refl, sym, ◌∙◌, ap, arith}
use Rattle.std.specs.Option.{option_copied}
use Rattle.std.proofs.lemmas.Result.{err_from_is_err_and}
use Rattle.uc_problem.specs.Candidates.{candidates}
use Rattle.uc_problem.specs.Fetching.{cut}
use Rattle.uc_problem.specs.Loading.{LoadsFile}
use Rattle.uc_problem.specs.Holds.{ReadsAs}
use Rattle.uc_problem.specs.Parts.{ItemComesTo}
use Rattle.uc_problem.proofs.Faulting.{kept_on, same_refusal, no_failure, unread_fails, selection_faulted}
use Rattle.uc_problem.proofs.Later.{Grows-refl, Grows-trans}
use Rattle.uc_problem.proofs.Items.{begin, go_on, end, stop, unread, none_left, same_part}
use Rattle.uc_clause.specs.declared.clause.Item.TheVariants as Item
use Rattle.uc_fof.specs.declared.item.FofItem.TheVariants as FofItem
use Rattle.uc_problem.specs.Loading.{place_if}
use Rattle.uc_problem.proofs.Includes.{clause_gives, formula_gives, taken, deep, many, failed, missing_of, held_of_names, inside_stops, chosen}
use Rattle.uc_problem.proofs.Fillings.{leaves_all, leaves_one, leaves_none, found_filled}
use Rattle.uc_problem.proofs.Sound.{none_sound, file_sound, go_on_sound, items_later, selected_sound}
use Rattle.uc_problem.proofs.files.+files.Goals as goal

pub load_file-returns-in-Err-clause-part : goal.load_file-returns-in-Err-clause-part
load_file-returns-in-Err-clause-part g t c = unread (g.L.Library.holds c.args.library.now) c.args.search.folder.now (option_copied c.args.search.root) c.args.depth c.args.name.now c.args.counts.now [] c.args.bytes.now c.args.counts.now c.read_formulas.new.symbols (g.L.Library.faults c.args.library.now) (g.L.Library.faults c.args.library.now) c.args.counts.now c.in-Err.fault c.not_read.result c.in-Err.ensures.refused c.not_read.ensures

pub load_file-returns-in_err-more-clause-part : goal.load_file-returns-in_err-more-clause-part
load_file-returns-in_err-more-clause-part g t c =
    let p = err_from_is_err_and c.from_residual.result c.from_residual.ensures.1 in
    rw (p.1, p.2) (stop (g.L.Library.holds c.args.library.now) c.args.search.folder.now (option_copied c.args.search.root) c.args.depth c.args.name.now c.args.counts.now c.into_iter-item-iterator.result.rest.items c.args.bytes.now c.args.counts.now c.read_formulas.new.symbols c.loop-item.symbols c.load_item.new.symbols
    (g.L.Library.faults c.args.library.now) (g.L.Library.faults c.loop-item.library) (g.L.Library.faults c.load_item.new.library) c.loop-item.counts c.load_item.new.counts c.loop-item.clauses c.in-Some.item c.next.new.self.rest.items c.in_err-more.field-0.0
    c.loop-item.invariant.later c.loop-item.invariant.grows c.in_err-more.ensures.grows
    (rw (c.into_iter-item-iterator.ensures.into_iter_gives.0, c.into_vec-item-items.ensures) c.in-Ok.ensures.reads)
    (rw c.in-Some.ensures.steps.0 at c.loop-item.invariant.left)
    (same_part (λ _. ItemComesTo c.args.search.folder.now (option_copied c.args.search.root) c.args.depth c.args.name.now c.loop-item.counts c.in-Some.item) (g.L.Library.holds c.loop-item.library) (g.L.Library.holds c.args.library.now) [] [] (g.L.Library.faults c.loop-item.library) (g.L.Library.faults c.load_item.new.library) c.load_item.new.symbols c.load_item.new.counts (Err c.in_err-more.field-0.0) c.loop-item.invariant.same refl c.in_err-more.ensures.part))

pub load_file-loop-item-init : goal.load_file-loop-item-init
load_file-loop-item-init g t c = record {
  same = refl;
  later = omega arith;
  counted = (refl, refl);
  grows = Grows-refl c.read_formulas.new.symbols;
  left = rw c.new-clauses.ensures (begin (g.L.Library.holds c.args.library.now) c.args.search.folder.now (option_copied c.args.search.root) c.args.depth c.args.name.now c.args.counts.now c.into_iter-item-iterator.result.rest.items c.read_formulas.new.symbols);
  fills = leaves_all c.args.search.folder.now (option_copied c.args.search.root) (g.L.Library.holds c.args.library.now) c.into_iter-item-iterator.result.rest.items c.read_formulas.new.symbols;
  sound = rw c.new-clauses.ensures (none_sound c.read_formulas.new.symbols c.args.counts.now c.args.counts.now refl);
  rest = file_sound c.args.bytes.now c.read_formulas.new.symbols c.into_iter-item-iterator.result.rest.items (rw (c.into_iter-item-iterator.ensures.into_iter_gives.0, c.into_vec-item-items.ensures) c.in-Ok.ensures.reads);
}

pub load_file-loop-item-preserved : goal.load_file-loop-item-preserved
load_file-loop-item-preserved g t c = record {
  same = c.in_ok-more.ensures.same ∙ c.loop-item.invariant.same;
  later = omega (arith, c.in_ok-more.ensures.later, c.loop-item.invariant.later);
  counted = kept_on None _ _ c.loop-item.invariant.counted c.in_ok-more.ensures.counted;
  grows = Grows-trans _ _ _ c.loop-item.invariant.grows c.in_ok-more.ensures.grows;
  left = rw c.in_ok-append.ensures.ok (go_on (g.L.Library.holds c.args.library.now) c.args.search.folder.now (option_copied c.args.search.root) c.args.depth c.args.name.now c.args.counts.now c.into_iter-item-iterator.result.rest.items c.loop-item.symbols c.load_item.new.symbols (g.L.Library.faults c.loop-item.library) (g.L.Library.faults c.load_item.new.library) c.loop-item.counts c.load_item.new.counts c.loop-item.clauses c.in_ok-more.more c.in-Some.item c.next.new.self.rest.items c.in_ok-more.ensures.grows
      (rw c.in-Some.ensures.steps.0 at c.loop-item.invariant.left)
      (rw c.loop-item.invariant.same at c.in_ok-more.ensures.part));
  fills = leaves_one c.args.search.folder.now (option_copied c.args.search.root) (g.L.Library.holds c.args.library.now) c.into_iter-item-iterator.result.rest.items c.read_formulas.new.symbols c.in-Some.item c.next.new.self.rest.items c.loop-item.symbols c.load_item.new.symbols
      (rw c.in-Some.ensures.steps.0 at c.loop-item.invariant.fills)
      (rw c.loop-item.invariant.same at c.in_ok-more.ensures.fills);
  sound = rw c.in_ok-append.ensures.ok (go_on_sound c.loop-item.symbols c.load_item.new.symbols c.args.counts.now c.loop-item.counts c.load_item.new.counts c.loop-item.clauses c.in_ok-more.more c.in_ok-more.ensures.grows c.loop-item.invariant.sound
      (c.in_ok-more.ensures.sound (rw c.in-Some.ensures.steps.0 at c.loop-item.invariant.rest).0));
  rest = items_later c.loop-item.symbols c.load_item.new.symbols c.in_ok-more.ensures.grows c.next.new.self.rest.items (rw c.in-Some.ensures.steps.0 at c.loop-item.invariant.rest).1;
}

pub load_file-returns-clause-part : goal.load_file-returns-clause-part
load_file-returns-clause-part g t c =
    let none = none_left c.loop-item.item-iterator.rest.items (sym c.loop-item.item-iterator.rest.ok.0 ∙ c.in-None.ensures.steps.0) in
    end (g.L.Library.holds c.args.library.now) c.args.search.folder.now (option_copied c.args.search.root) c.args.depth c.args.name.now c.args.counts.now c.into_iter-item-iterator.result.rest.items c.args.bytes.now c.args.counts.now c.read_formulas.new.symbols c.loop-item.symbols (g.L.Library.faults c.args.library.now) (g.L.Library.faults c.loop-item.library) c.loop-item.counts c.loop-item.clauses c.loop-item.invariant.grows
    (rw (c.into_iter-item-iterator.ensures.into_iter_gives.0, c.into_vec-item-items.ensures) c.in-Ok.ensures.reads)
    (rw none at c.loop-item.invariant.left)

pub load_file-returns-clause-fills : goal.load_file-returns-clause-fills
load_file-returns-clause-fills g t c =
    let none = none_left c.loop-item.item-iterator.rest.items (sym c.loop-item.item-iterator.rest.ok.0 ∙ c.in-None.ensures.steps.0) in
    leaves_none c.args.search.folder.now (option_copied c.args.search.root) (g.L.Library.holds c.args.library.now) c.args.bytes.now c.into_iter-item-iterator.result.rest.items c.args.symbols.now c.read_formulas.new.symbols c.loop-item.symbols c.in-Ok.ensures.interns
    (rw (c.into_iter-item-iterator.ensures.into_iter_gives.0, c.into_vec-item-items.ensures) c.in-Ok.ensures.reads)
    (rw none at c.loop-item.invariant.fills)

pub load_include-returns-then-depth-ge-MAX_DEPTH-clause-part : goal.load_include-returns-then-depth-ge-MAX_DEPTH-clause-part
load_include-returns-then-depth-ge-MAX_DEPTH-clause-part g t c = rw c.in_ok-copy.ensures (deep (g.L.Library.holds c.args.library.now) c.args.search.folder.now (option_copied c.args.search.root) c.args.depth c.args.name.now c.args.counts.now c.args.include.now c.args.symbols.now 0 0 c.args.counts.now c.if-depth-ge-MAX_DEPTH.true)

pub load_include-returns-then-counts-ge-MAX_FILES-clause-part : goal.load_include-returns-then-counts-ge-MAX_FILES-clause-part
load_include-returns-then-counts-ge-MAX_FILES-clause-part g t c = rw c.in_ok-copy-2.ensures (many (g.L.Library.holds c.args.library.now) c.args.search.folder.now (option_copied c.args.search.root) c.args.depth c.args.name.now c.args.counts.now c.args.include.now c.args.symbols.now 0 0 c.args.counts.now c.if-depth-ge-MAX_DEPTH.false c.if-counts-ge-MAX_FILES.true)

pub load_include-returns-in_err-found-clause-part : goal.load_include-returns-in_err-found-clause-part
load_include-returns-in_err-found-clause-part g t c =
    let p = err_from_is_err_and c.from_residual-in_err-found.result c.from_residual-in_err-found.ensures.1 in
    rw (p.1, p.2) (failed (g.L.Library.holds c.args.library.now) c.args.search.folder.now (option_copied c.args.search.root) c.args.depth c.args.name.now c.args.counts.now c.args.include.now c.args.symbols.now (g.L.Library.faults c.args.library.now) (g.L.Library.faults c.args.library.now) (g.L.Library.faults c.fetch_first.new.library) c.args.counts.now c.as_slice.result.now c.in_err-found.field-0.0
    (c.as_slice.ensures ∙ c.in_ok-names.ensures ∙ ap (candidates c.args.search.folder.now (option_copied c.args.search.root)) c.as_bytes.ensures) c.if-depth-ge-MAX_DEPTH.false c.if-counts-ge-MAX_FILES.false (omega arith) c.in_err-found.ensures.first)

pub load_include-returns-in_default-clause-part : goal.load_include-returns-in_default-clause-part
load_include-returns-in_default-clause-part g t c =
    missing_of (g.L.Library.holds c.args.library.now) c.args.search.folder.now (option_copied c.args.search.root) c.args.depth c.args.name.now c.args.counts.now c.args.include.now c.args.symbols.now (g.L.Library.faults c.args.library.now) (g.L.Library.faults c.args.library.now) (g.L.Library.faults c.fetch_first.new.library) c.args.counts.now c.as_slice.result.now c.in_ok-found.field-0 (c.as_slice.ensures ∙ c.in_ok-names.ensures ∙ ap (candidates c.args.search.folder.now (option_copied c.args.search.root)) c.as_bytes.ensures)
    c.in_default.is c.if-depth-ge-MAX_DEPTH.false c.if-counts-ge-MAX_FILES.false c.in_ok-found.ensures.first c.in_ok-copy-3.field-0 c.in_ok-copy-4.field-0 c.in_ok-copy-3.ensures c.in_ok-copy-4.ensures

pub load_include-returns-in_err-given-clause-part : goal.load_include-returns-in_err-given-clause-part
load_include-returns-in_err-given-clause-part g t c =
    let p = err_from_is_err_and c.from_residual-in_err-given.result c.from_residual-in_err-given.ensures.1 in
    rw (p.1, p.2) (inside_stops (g.L.Library.holds c.args.library.now) c.args.search.folder.now (option_copied c.args.search.root) c.args.depth c.args.name.now c.args.counts.now c.args.include.now c.args.symbols.now c.load_file.new.symbols (g.L.Library.faults c.args.library.now) (g.L.Library.faults c.fetch_first.new.library) (g.L.Library.faults c.load_file.new.library) c.load_file.new.counts c.in-Some.found c.in_err-given.field-0.0
    c.if-depth-ge-MAX_DEPTH.false c.if-counts-ge-MAX_FILES.false c.in_ok-found.ensures.later c.in_err-given.ensures.grows
    (held_of_names (g.L.Library.holds c.args.library.now) c.args.search.folder.now (option_copied c.args.search.root) c.args.depth c.args.name.now c.args.counts.now c.args.include.now c.args.symbols.now (g.L.Library.faults c.args.library.now) (g.L.Library.faults c.fetch_first.new.library) c.as_slice.result.now c.in_ok-found.field-0 c.in-Some.found (c.as_slice.ensures ∙ c.in_ok-names.ensures ∙ ap (candidates c.args.search.folder.now (option_copied c.args.search.root)) c.as_bytes.ensures) c.in-Some.is c.in_ok-found.ensures.first)
    (same_part (λ bytes files T failing loaded. (whole : List ℕ) → bytes ≡ cut whole → LoadsFile (ReadsAs T) files failing c.args.search.folder.now (option_copied c.args.search.root) (c.args.depth + 1) c.in-Some.found.name whole (record { clauses = c.args.counts.now.clauses; files = c.args.counts.now.files + 1 }) loaded) (g.L.Library.holds c.fetch_first.new.library) (g.L.Library.holds c.args.library.now) c.as_bytes-bytes.result.now c.in-Some.found.bytes (g.L.Library.faults c.fetch_first.new.library) (g.L.Library.faults c.load_file.new.library) c.load_file.new.symbols c.load_file.new.counts (Err c.in_err-given.field-0.0) c.in_ok-found.ensures.same c.as_bytes-bytes.ensures c.in_err-given.ensures.part))

pub load_include-returns-clause-part : goal.load_include-returns-clause-part
load_include-returns-clause-part g t c =
    chosen (g.L.Library.holds c.args.library.now) c.args.search.folder.now (option_copied c.args.search.root) c.args.depth c.args.name.now c.args.counts.now c.args.include.now c.args.symbols.now c.load_file.new.symbols (g.L.Library.faults c.args.library.now) (g.L.Library.faults c.fetch_first.new.library) (g.L.Library.faults c.load_file.new.library) c.load_file.new.counts c.in-Some.found c.in_ok-given.given c.select.result
    c.if-depth-ge-MAX_DEPTH.false c.if-counts-ge-MAX_FILES.false c.in_ok-given.ensures.grows
    (held_of_names (g.L.Library.holds c.args.library.now) c.args.search.folder.now (option_copied c.args.search.root) c.args.depth c.args.name.now c.args.counts.now c.args.include.now c.args.symbols.now (g.L.Library.faults c.args.library.now) (g.L.Library.faults c.fetch_first.new.library) c.as_slice.result.now c.in_ok-found.field-0 c.in-Some.found (c.as_slice.ensures ∙ c.in_ok-names.ensures ∙ ap (candidates c.args.search.folder.now (option_copied c.args.search.root)) c.as_bytes.ensures) c.in-Some.is c.in_ok-found.ensures.first)
    (rw (c.in_ok-found.ensures.same, c.as_bytes-bytes.ensures) at c.in_ok-given.ensures.part)
    c.select.ensures

pub load_include-returns-clause-sound : goal.load_include-returns-clause-sound
load_include-returns-clause-sound g t c = selected_sound c.load_file.new.symbols c.args.counts.now c.load_file.new.counts c.args.name.now c.args.include.now c.in_ok-given.given c.select.result c.in_ok-given.ensures.sound c.select.ensures

pub load_include-returns-clause-fills : goal.load_include-returns-clause-fills
load_include-returns-clause-fills g t c =
    found_filled c.args.search.folder.now (option_copied c.args.search.root) c.args.include.now (g.L.Library.faults c.args.library.now) (g.L.Library.faults c.fetch_first.new.library) c.args.symbols.now c.load_file.new.symbols (g.L.Library.holds c.args.library.now) c.as_slice.result.now c.in_ok-found.field-0 c.in-Some.found c.select.result
    (c.as_slice.ensures ∙ c.in_ok-names.ensures ∙ ap (candidates c.args.search.folder.now (option_copied c.args.search.root)) c.as_bytes.ensures) c.in-Some.is c.in_ok-found.ensures.first
    (rw (c.in_ok-found.ensures.same, c.as_bytes-bytes.ensures) at c.in_ok-given.ensures.fills)

pub load_file-returns-in_err-more-clause-counted : goal.load_file-returns-in_err-more-clause-counted
load_file-returns-in_err-more-clause-counted g t c =
    let p = err_from_is_err_and c.from_residual.result c.from_residual.ensures.1 in
    rw (p.1, p.2) (same_refusal c.in_err-more.field-0.0 _ _ c.loop-item.invariant.counted c.in_err-more.ensures.counted)

pub load_file-returns-in-Err-clause-counted : goal.load_file-returns-in-Err-clause-counted
load_file-returns-in-Err-clause-counted g t c = no_failure c.not_read.result (unread_fails c.args.name.now c.in-Err.fault c.not_read.result c.not_read.ensures) (refl, refl)

pub load_include-returns-in_err-found-clause-counted : goal.load_include-returns-in_err-found-clause-counted
load_include-returns-in_err-found-clause-counted g t c =
    let p = err_from_is_err_and c.from_residual-in_err-found.result c.from_residual-in_err-found.ensures.1 in
    rw (p.1, p.2) (same_refusal c.in_err-found.field-0.0 _ _ (refl, refl) c.in_err-found.ensures.counted)

pub load_include-returns-in_err-given-clause-counted : goal.load_include-returns-in_err-given-clause-counted
load_include-returns-in_err-given-clause-counted g t c =
    let p = err_from_is_err_and c.from_residual-in_err-given.result c.from_residual-in_err-given.ensures.1 in
    rw (p.1, p.2) (same_refusal c.in_err-given.field-0.0 _ _ c.in_ok-found.ensures.counted c.in_err-given.ensures.counted)

pub load_include-returns-clause-counted : goal.load_include-returns-clause-counted
load_include-returns-clause-counted g t c = selection_faulted c.args.name.now c.args.include.now c.in_ok-given.given c.select.result c.select.ensures (kept_on None _ _ c.in_ok-found.ensures.counted c.in_ok-given.ensures.counted)

pub load_item-returns-in-Item-Clause-clause-part : goal.load_item-returns-in-Item-Clause-clause-part
load_item-returns-in-Item-Clause-clause-part g t c =
    rw (c.in-Item-Clause.is, c.in-Item-Clause.field-0-is) (taken (g.L.Library.holds c.args.library.now) c.args.search.folder.now (option_copied c.args.search.root) c.args.depth c.args.name.now c.args.counts.now (FofItem.Item (Item.Clause c.in-Item-Clause.clause)) c.in-Item-Clause.clause None c.args.symbols.now (g.L.Library.faults c.args.library.now) (g.L.Library.faults c.args.library.now) c.take_clause.new.counts c.take_clause.result (clause_gives (g.L.Library.holds c.args.library.now) c.args.search.folder.now (option_copied c.args.search.root) c.args.depth c.args.name.now c.args.counts.now c.in-Item-Clause.clause) c.take_clause.ensures)

pub load_item-returns-in-Formula-clause-part : goal.load_item-returns-in-Formula-clause-part
load_item-returns-in-Formula-clause-part g t c =
    rw c.in-Formula.is (taken (g.L.Library.holds c.args.library.now) c.args.search.folder.now (option_copied c.args.search.root) c.args.depth c.args.name.now c.args.counts.now (FofItem.Formula c.in-Formula.clause c.in-Formula.conjecture c.in-Formula.role_place) c.in-Formula.clause (place_if c.in-Formula.conjecture c.in-Formula.role_place) c.args.symbols.now (g.L.Library.faults c.args.library.now) (g.L.Library.faults c.args.library.now) c.take_clause-in-Formula.new.counts c.take_clause-in-Formula.result (formula_gives (g.L.Library.holds c.args.library.now) c.args.search.folder.now (option_copied c.args.search.root) c.args.depth c.args.name.now c.args.counts.now c.in-Formula.clause c.in-Formula.conjecture c.in-Formula.role_place) (rw c.place_if.ensures at c.take_clause-in-Formula.ensures))
