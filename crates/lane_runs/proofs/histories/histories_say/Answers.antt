use Rattle.lane_runs.proofs.histories.histories_say.Goals as goal

pub returns-clause-stands : goal.returns-clause-stands
returns-clause-stands g c m h stands = g.met.C.Rules.came m h stands

pub returns-clause-fit : goal.returns-clause-fit
returns-clause-fit g c q h legal = (g.met.C.Rules.keeps q).lines_fit h legal
