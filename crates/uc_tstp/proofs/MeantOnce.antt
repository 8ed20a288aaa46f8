-- What lines say in a table of symbols and with their names all different is one thing.
use Rattle.std.proofs.Common.{◌≡◌, ℕ, List, [], ◌++◌, refl, sym, ap, ◌∙◌}
use Rattle.uc_term.specs.Table.{Table, IsDistinct}
use Rattle.uc_clause.specs.declared.token.Token.{Token}
use Rattle.uc_clause.specs.Terminals.{bytes_at}
use Rattle.uc_clause.specs.Meaning.{Variables}
use Rattle.uc_clause.proofs.ItemsOnce.{name_is_once}
use Rattle.uc_clause.specs.Distinct.{AreDistinct}
use Rattle.uc_clause.proofs.MeansOnce.{none_distinct, with_names_distinct, means_once}
use Rattle.uc_check.specs.declared.proof.Line.{Line}
use Rattle.uc_check.specs.declared.proof.LineStep.{LineStep}
use Rattle.uc_check.specs.declared.proof.LineSource.{LineSource}
use Rattle.uc_check.specs.declared.proof.LineSource.TheVariants.{File, Chain, Reflexive, EncodeGoal, Refute}
use Rattle.uc_tstp.specs.Parse as parse
use Rattle.uc_tstp.specs.Parse.{Body, says, falsum, Source, from_file, by_chain, by_reflexive, by_goal, by_refute}
use Rattle.uc_tstp.specs.Meaning.{body_variables, source_variables, variables_of, IsNamed, AreNamed, none_named, one_named, MeansStep, MeanSteps, no_steps, one_step, MeansSource, MeansBody, MeansLine, MeanLines, no_lines, one_line}

module _ (bytes : List ℕ) (tokens : List Token) where
  module _ (names : List (List ℕ)) (different : AreDistinct names) where
    named_once : (k m n : ℕ) → IsNamed bytes tokens names k m → IsNamed bytes tokens names k n → m ≡ n
    named_once k m n a b = different m n (bytes_at bytes tokens k) a b

    are_named_once : {ks ms ns : List ℕ} → AreNamed bytes tokens names ks ms → AreNamed bytes tokens names ks ns → ms ≡ ns
    are_named_once none_named none_named = refl
    are_named_once (one_named {k = k} {number = m} {numbers = ms} a all) (one_named {number = n} {numbers = ns} b others) =
        let first : m ≡ n = named_once k m n a b in
        let rest : ms ≡ ns = are_named_once all others in
        rw (first, rest) refl

    module _ (table : Table) (distinct : IsDistinct table) where
      module _ (seen : Variables) (apart : AreDistinct seen) where
        step_is_once : (s : parse.Step) (a b : LineStep) → MeansStep bytes tokens table names seen s a → MeansStep bytes tokens table names seen s b → a ≡ b
        step_is_once s a b m n =
            let numbers : a.by ≡ b.by = named_once s.by a.by b.by m.by n.by in
            let ways : a.left_to_right ≡ b.left_to_right = m.way ∙ sym n.way in
            let paths : a.path ≡ b.path = m.path ∙ sym n.path in
            let terms : a.to ≡ b.to = means_once bytes tokens table seen distinct apart m.to n.to in
            let all : record { by = a.by; left_to_right = a.left_to_right; path = a.path; to = a.to } ≡ (let r : LineStep = record { by = b.by; left_to_right = b.left_to_right; path = b.path; to = b.to } in r) = rw (numbers, ways, paths, terms) refl in
            all

        steps_are_once : {ss : List parse.Step} {xs ys : List LineStep} → MeanSteps bytes tokens table names seen ss xs → MeanSteps bytes tokens table names seen ss ys → xs ≡ ys
        steps_are_once no_steps no_steps = refl
        steps_are_once (one_step {s = s} {step = a} {steps = xs} m all) (one_step {step = b} {steps = ys} n others) =
            let first : a ≡ b = step_is_once s a b m n in
            let rest : xs ≡ ys = steps_are_once all others in
            rw (first, rest) refl

        source_is_once : (s : Source) (a b : LineSource) → MeansSource bytes tokens table names seen s a → MeansSource bytes tokens table names seen s b → a ≡ b
        source_is_once (from_file k) (File m) (File n) x y = ap File (name_is_once bytes tokens k m n x y)
        source_is_once (by_chain p ss ks) (Chain t xs ms) (Chain u ys ns) x y =
            let starts : t ≡ u = means_once bytes tokens table seen distinct apart x.0 y.0 in
            let steps : xs ≡ ys = steps_are_once x.1 y.1 in
            let parents : ms ≡ ns = are_named_once x.2 y.2 in
            rw (starts, steps, parents) refl
        source_is_once (by_reflexive ks) (Reflexive ms) (Reflexive ns) x y = ap Reflexive (are_named_once x y)
        source_is_once (by_goal ks) (EncodeGoal ms) (EncodeGoal ns) x y = ap EncodeGoal (are_named_once x y)
        source_is_once (by_refute ks) (Refute ms) (Refute ns) x y = ap Refute (are_named_once x y)
        source_is_once s a b x y = absurd search

        body_is_once : (s : Body) (a b : Line) → MeansBody bytes tokens table names seen s a → MeansBody bytes tokens table names seen s b → (a.positive ≡ b.positive) × (a.left ≡ b.left) × (a.right ≡ b.right)
        body_is_once (says l) a b x y = (x.0 ∙ sym y.0, means_once bytes tokens table seen distinct apart x.1 y.1, means_once bytes tokens table seen distinct apart x.2 y.2)
        body_is_once falsum a b x y = (x.0 ∙ sym y.0, x.1 ∙ sym y.1, x.2 ∙ sym y.2)

      line_is_once : (l : parse.Line) (a b : Line) → MeansLine bytes tokens table names l a → MeansLine bytes tokens table names l b → a ≡ b
      line_is_once l a b m n =
          let apart : AreDistinct (variables_of bytes tokens l) = with_names_distinct [] (body_variables bytes tokens l.body ++ source_variables bytes tokens l.source) none_distinct in
          let titles : a.name ≡ b.name = m.name ∙ sym n.name in
          let body = body_is_once (variables_of bytes tokens l) apart l.body a b m.body n.body in
          let sources : a.source ≡ b.source = source_is_once (variables_of bytes tokens l) apart l.source a.source b.source m.source n.source in
          let lefts : a.left ≡ b.left = body.1 in
          let rights : a.right ≡ b.right = body.2 in
          let signs : a.positive ≡ b.positive = body.0 in
          let all : record { name = a.name; source = a.source; left = a.left; right = a.right; positive = a.positive } ≡ (let r : Line = record { name = b.name; source = b.source; left = b.left; right = b.right; positive = b.positive } in r) = rw (titles, sources, lefts, rights, signs) refl in
          all

      pub lines_are_once : {ls : List parse.Line} {xs ys : List Line} → MeanLines bytes tokens table names ls xs → MeanLines bytes tokens table names ls ys → xs ≡ ys
      lines_are_once no_lines no_lines = refl
      lines_are_once (one_line {l = l} {line = a} {lines = xs} m all) (one_line {line = b} {lines = ys} n others) =
          let first : a ≡ b = line_is_once l a b m n in
          let rest : xs ≡ ys = lines_are_once all others in
          rw (first, rest) refl
