use Rattle.core_contract.specs.Laws.{tap_lane}
use Rattle.core_contract.specs.Ruled.{journal_of}
use Rattle.discipline_laws.proofs.Ticking.{only_hears, telling}
use Rattle.discipline_laws.proofs.Fitting.{in_script, lawful, scripted_so, scripted_as, seated_so}
use Rattle.discipline_laws.proofs.Hearing.{hearing_is_scripted, tap_halt_is_paid}
use Rattle.discipline_laws.proofs.laws.taps_are_heard.Goals as goal

pub returns : goal.returns
returns c = record {
  hears = λ q is h w d lt may. in_script q is h (tap_lane w) d (seated_so q (journal_of h) (tap_lane w) d (hearing_is_scripted q.seats q.kinds q.plan h w d lt may));
  hears_only = λ q is h w d came fit.
      only_hears q h w d (lawful q is (journal_of h) came.legal) (scripted_as q (journal_of h) (tap_lane w) d (scripted_so q h (tap_lane w) d fit));
  halts = λ q is h w lt n. tap_halt_is_paid q.seats h w lt n;
  only = λ q is h lane d l tells fit. telling q h lane d l tells (scripted_as q (journal_of h) lane d (scripted_so q h lane d fit));
}
