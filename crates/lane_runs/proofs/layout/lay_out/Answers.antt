use Rattle.std.proofs.Common.{ℕ, ◌<◌, ◌^◌, None, count_by, replicate, sym, ap, subst, ◌∙◌}
use Rattle.std.specs.List.{list_any, range_with_len}
use Rattle.core_contract.specs.Laws.{lines_in}
use Rattle.lane_runs.specs.Apart.{lefts_of}
use Rattle.lane_runs.specs.BerthHalves.{AreInside}
use Rattle.lane_runs.specs.Blanks.{HasRoom}
use Rattle.lane_runs.specs.Layout.{orders_line, tells_halt}
use Rattle.lane_runs.proofs.Laying.{lines_counted, lines_placed, halts_told}
use Rattle.lane_runs.proofs.Matching.{numbered_many}
use Rattle.lane_runs.proofs.layout.lay_out.Goals as goal

pub number_lines-requires-clause-room : goal.number_lines-requires-clause-room
number_lines-requires-clause-room g c =
    subst (λ (n : ℕ). HasRoom n c.args.blank.lines)
    (sym (lines_counted c.args.history.items c.of-journal.result c.lines_ordered.result
    c.of-journal.ensures (c.lines_ordered.ensures ∙ ap (count_by orders_line) c.entries-2.ensures)))
    c.requires.room.lines_fit

pub number_lines-requires-clause-few : goal.number_lines-requires-clause-few
number_lines-requires-clause-few g c =
    subst (λ (n : ℕ). n < 2 ^ 32)
    (sym (lines_counted c.args.history.items c.of-journal.result c.lines_ordered.result
    c.of-journal.ensures (c.lines_ordered.ensures ∙ ap (count_by orders_line) c.entries-2.ensures)))
    c.requires.few

pub lay_berths-requires-clause-inside : goal.lay_berths-requires-clause-inside
lay_berths-requires-clause-inside g c =
    let counted = lines_counted c.args.history.items c.of-journal.result c.lines_ordered.result
    c.of-journal.ensures (c.lines_ordered.ensures ∙ ap (count_by orders_line) c.entries-2.ensures) in
    let many = numbered_many c.number_lines.new.lines.items c.lines_ordered.result
    c.number_lines.ensures.numbers in
    subst (λ (n : ℕ). AreInside n (lefts_of c.args.taps.items c.args.ends.items))
    (sym (many ∙ counted)) c.requires.fit.inside

pub returns : goal.returns
returns g c =
    let counted = lines_counted c.args.history.items c.of-journal.result c.lines_ordered.result
    c.of-journal.ensures (c.lines_ordered.ensures ∙ ap (count_by orders_line) c.entries-2.ensures) in
    record {
      journal = c.of-journal.ensures;
      berths = c.lay_berths.ensures.berths;
      lines = record {
        numbers = c.lay_berths.ensures.numbers
            ∙ (c.number_lines.ensures.numbers ∙ ap (range_with_len 0) counted);
        placed = lines_placed (lines_in c.args.history.items)
            (lefts_of c.args.taps.items c.args.ends.items) c.number_lines.new.lines.items
            c.lay_berths.new.lines.items c.requires.fit
            (c.number_lines.ensures.halves ∙ ap (λ (n : ℕ). replicate n None) counted)
            c.lay_berths.ensures.halves;
      };
      unsaid = c.lay_berths.ensures.unsaid;
      places = c.all_there-places.ensures;
      halts = halts_told c.args.history.items c.of-journal.result c.has_halt-halted.result
          c.of-journal.ensures (c.has_halt-halted.ensures ∙ ap (list_any tells_halt) c.entries.ensures);
    }
