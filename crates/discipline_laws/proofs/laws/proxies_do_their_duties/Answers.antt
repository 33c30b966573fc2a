use Rattle.core_contract.specs.Duties.{proxy_lane}
use Rattle.core_contract.specs.Ruled.{journal_of}
use Rattle.discipline_laws.proofs.Doing.{duty_is_scripted}
use Rattle.discipline_laws.proofs.Dues.{halt_is_paid, commit_is_paid}
use Rattle.discipline_laws.proofs.Ticking.{only_makes}
use Rattle.discipline_laws.proofs.Fitting.{in_script, scripted_so, scripted_as, seated_so}
use Rattle.discipline_laws.proofs.OfRules as laws
use Rattle.discipline_laws.proofs.laws.proxies_do_their_duties.Goals as goal

pub returns : goal.returns
returns c = record {
  does = λ q is h w d lt may. in_script q is h (proxy_lane w) d (seated_so q (journal_of h) (proxy_lane w) d (duty_is_scripted q h w d lt may));
  does_only = λ q is h w d fit. only_makes q h w d (scripted_as q (journal_of h) (proxy_lane w) d (scripted_so q h (proxy_lane w) d fit));
  ticks = λ q is h w lt makes owes. laws.tickers_may_tick q is h w lt makes owes;
  halts = λ q is h w lt n. halt_is_paid q.seats h w lt n;
  commits = λ q is h w a b fs how lt e. commit_is_paid q.seats h w a b fs how lt e;
}
