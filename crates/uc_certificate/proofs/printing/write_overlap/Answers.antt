use Rattle.std.proofs.Common.{◌++◌, ap, ◌∙◌, codes}
use Rattle.uc_tstp.specs.Printing.{path_text}
use Rattle.uc_certificate.specs.Printing.{fact_side_text}
use Rattle.uc_certificate.proofs.Written.{on_ok, overlap_behind}
use Rattle.uc_certificate.proofs.printing.write_overlap.Goals as goal

pub returns : goal.returns
returns c =
    on_ok c.extend-4.result
    (λ h. h ∙ ap (λ l. l ++ codes ")") (c.in_ok-write_path.ensures ∙ ap (λ l. l ++ path_text c.args.path.now) (c.in_ok-extend-3.ensures.ok ∙ ap (λ l. l ++ codes ", ") (c.in_ok-write_fact_side-2.ensures ∙ ap (λ l. l ++ fact_side_text c.args.inner c.args.inner_side) (c.in_ok-extend-2.ensures.ok ∙ ap (λ l. l ++ codes ", ") (c.in_ok-write_fact_side.ensures ∙ ap (λ l. l ++ fact_side_text c.args.outer c.args.outer_side) c.in_ok-extend.ensures.ok)))))
    ∙ overlap_behind c.args.out.now (codes "overlap(") (fact_side_text c.args.outer c.args.outer_side) (codes ", ") (fact_side_text c.args.inner c.args.inner_side) (path_text c.args.path.now) (codes ")"))
    c.extend-4.ensures.ok
