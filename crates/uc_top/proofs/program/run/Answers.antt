use Rattle.std.proofs.Common.{None, arith}
use Rattle.uc_top.specs.Runs.{wants_memory}
use Rattle.uc_top.proofs.Completeness.{all_complete}
use Rattle.uc_top.proofs.Completing.{own_status}
use Rattle.uc_top.proofs.TableCompleting.{keeps_table_word}
use Rattle.uc_top.proofs.ModelCompleting.{keeps_model_word}
use Rattle.uc_top.proofs.CertifyCompleting.{keeps_certify_word}
use Rattle.uc_top.proofs.ProveCompleting.{keeps_word}
use Rattle.uc_top.proofs.DecidePromises.{keeps_decide_word}
use Rattle.uc_top.proofs.SystemPromises.{keeps_system_word}
use Rattle.uc_top.proofs.Faulted.{wants, tells, named, never_five}
use Rattle.uc_top.proofs.GenCompleting.{keeps_gen_word}
use Rattle.uc_top.proofs.program.run.Goals as goal

pub returns-in-Err-clause-answers : goal.returns-in-Err-clause-answers
returns-in-Err-clause-answers g c = record { status = 7; text = _; answer = wants_memory; told = c.tell_memory_out.ensures.told }

pub returns-in-Err-clause-complete : goal.returns-in-Err-clause-complete
returns-in-Err-clause-complete g c = all_complete _ _ _ _ _ _ _ _ _ (record { status = 7; text = _; answer = wants_memory; told = c.tell_memory_out.ensures.told })

pub returns-in-Ok-clause-complete : goal.returns-in-Ok-clause-complete
returns-in-Ok-clause-complete g c = all_complete _ _ _ _ _ _ _ _ _ (record { status = _; text = _; answer = c.in-Ok.ensures.answers; told = c.tell.ensures.told })

pub returns-in-Ok-clause-certified : goal.returns-in-Ok-clause-certified
returns-in-Ok-clause-certified g c done = c.in-Ok.ensures.certified (own_status c.tell.ensures.told done)

pub returns-in-Err-clause-headline : goal.returns-in-Err-clause-headline
returns-in-Err-clause-headline g c files told = record {
  prove = keeps_word files _ _ _ _ _ _ _ _ c.tell_memory_out.ensures.told (λ few command reads is_prove. absurd (omega (arith, few)));
  decide = keeps_decide_word files _ _ _ _ _ _ _ _ c.tell_memory_out.ensures.told (λ few command reads is_decide. absurd (omega (arith, few)));
  system = keeps_system_word _ 0 0 _ _ _ _ _ _ (record { status = 7; text = _; answer = wants_memory; told = c.tell_memory_out.ensures.told }) files told;
}

pub returns-in-Ok-clause-headline : goal.returns-in-Ok-clause-headline
returns-in-Ok-clause-headline g c files told = record {
  prove = keeps_word files _ _ _ _ _ _ _ _ c.tell.ensures.told (λ few. c.in-Ok.ensures.promise few files told);
  decide = keeps_decide_word files _ _ _ _ _ _ _ _ c.tell.ensures.told (λ few. c.in-Ok.ensures.decided few files told);
  system = keeps_system_word _ _ _ _ _ _ _ _ _ (record { status = _; text = _; answer = c.in-Ok.ensures.answers; told = c.tell.ensures.told }) files told;
}

pub returns-in-Ok-clause-faulted : goal.returns-in-Ok-clause-faulted
returns-in-Ok-clause-faulted g c = tells (g.L.Library.faults c.args.library.now) (g.L.Library.faults c.whole_answer.new.library) (g.L.Library.failed_at c.args.library.now) (g.L.Library.failed_at c.whole_answer.new.library) c.in-Ok.ensures.counted c.tell.ensures.counted

pub returns-in-Err-clause-faulted : goal.returns-in-Err-clause-faulted
returns-in-Err-clause-faulted g c = wants (g.L.Library.faults c.args.library.now) (g.L.Library.faults c.whole_answer.new.library) (g.L.Library.failed_at c.args.library.now) (g.L.Library.failed_at c.whole_answer.new.library) c.in-Err.ensures.counted.0 c.in-Err.ensures.counted.1 c.tell_memory_out.ensures.counted

pub returns-in-Ok-clause-named : goal.returns-in-Ok-clause-named
returns-in-Ok-clause-named g c five command reads file counted = named (g.L.Library.faults c.args.library.now) (g.L.Library.faults c.whole_answer.new.library) (g.L.Library.failed_at c.args.library.now) (g.L.Library.failed_at c.whole_answer.new.library) file c.tell.ensures.told five (c.in-Ok.ensures.faulted command reads) counted

pub returns-in-Err-clause-named : goal.returns-in-Err-clause-named
returns-in-Err-clause-named g c five command reads file counted = absurd (never_five c.tell_memory_out.ensures.counted five)

pub returns-in-Ok-clause-sink_counted : goal.returns-in-Ok-clause-sink_counted
returns-in-Ok-clause-sink_counted g c = (_, c.tell.ensures.counted)

pub returns-in-Err-clause-sink_counted : goal.returns-in-Err-clause-sink_counted
returns-in-Err-clause-sink_counted g c = (7, c.tell_memory_out.ensures.counted)

pub returns-in-Err-clause-tabled : goal.returns-in-Err-clause-tabled
returns-in-Err-clause-tabled g c = keeps_table_word _ 0 0 _ _ _ _ _ _ (record { status = 7; text = _; answer = wants_memory; told = c.tell_memory_out.ensures.told })

pub returns-in-Ok-clause-tabled : goal.returns-in-Ok-clause-tabled
returns-in-Ok-clause-tabled g c = keeps_table_word _ _ _ _ _ _ _ _ _ (record { status = _; text = _; answer = c.in-Ok.ensures.answers; told = c.tell.ensures.told })

pub returns-in-Err-clause-modelled : goal.returns-in-Err-clause-modelled
returns-in-Err-clause-modelled g c = keeps_model_word _ 0 0 _ _ _ _ _ _ (record { status = 7; text = _; answer = wants_memory; told = c.tell_memory_out.ensures.told })

pub returns-in-Ok-clause-modelled : goal.returns-in-Ok-clause-modelled
returns-in-Ok-clause-modelled g c = keeps_model_word _ _ _ _ _ _ _ _ _ (record { status = _; text = _; answer = c.in-Ok.ensures.answers; told = c.tell.ensures.told })

pub returns-in-Ok-clause-given : goal.returns-in-Ok-clause-given
returns-in-Ok-clause-given g c = record { status = _; text = _; answer = c.in-Ok.ensures.answers; gives = c.tell.ensures.given }

pub returns-in-Err-clause-given : goal.returns-in-Err-clause-given
returns-in-Err-clause-given g c = record { status = 7; text = _; answer = wants_memory; gives = c.tell_memory_out.ensures.given }

pub returns-in-Err-clause-certificate : goal.returns-in-Err-clause-certificate
returns-in-Err-clause-certificate g c = keeps_certify_word _ 0 0 _ _ _ _ _ _ (record { status = 7; text = _; answer = wants_memory; told = c.tell_memory_out.ensures.told })

pub returns-in-Ok-clause-certificate : goal.returns-in-Ok-clause-certificate
returns-in-Ok-clause-certificate g c = keeps_certify_word _ _ _ _ _ _ _ _ _ (record { status = _; text = _; answer = c.in-Ok.ensures.answers; told = c.tell.ensures.told })

pub returns-in-Err-clause-counted : goal.returns-in-Err-clause-counted
returns-in-Err-clause-counted g c = keeps_gen_word None 0 0 _ _ _ _ _ _ (record { status = 7; text = _; answer = wants_memory; told = c.tell_memory_out.ensures.told })

pub returns-in-Ok-clause-counted : goal.returns-in-Ok-clause-counted
returns-in-Ok-clause-counted g c = keeps_gen_word (g.L.Library.holds c.args.library.now) (g.L.Library.faults c.args.library.now) (g.L.Library.faults c.whole_answer.new.library) _ _ _ _ _ _ (record { status = _; text = _; answer = c.in-Ok.ensures.answers; told = c.tell.ensures.told })
