use Rattle.uc_unify.proofs.walking.go_on_at_app.Goals as goal

pub returns-in-App : goal.returns-in-App
returns-in-App c = c.go_on_at_apps.ensures c.args.subst.now c.requires.reduced
