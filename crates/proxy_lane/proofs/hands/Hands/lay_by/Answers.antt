use Rattle.std.proofs.Common.{◌≡◌, ℕ, Option, [], ◌∷◌, refl, ap, sym, subst, ◌∙◌}
use Rattle.std.specs.Prelude.{option_map, map, IfSome}
use Rattle.std.proofs.lemmas.List.{map-append}
use Rattle.proxy_laws.specs.Lanes.{open_of, back_of}
use Rattle.proxy_laws.specs.Steps.{open_in}
use Rattle.proxy_laws.proofs.Acting.{line_told, line_is, no_line}
use Rattle.proxy_lane.proofs.Siting.{laid_at}
use Rattle.proxy_lane.proofs.hands.Hands.lay_by.Goals as goal

pub push_reserved-requires : goal.push_reserved-requires
push_reserved-requires g c = c.self.invariant c.args.line
    (sym (line_told g.B.Feed.Feed.told c.self.inside.«open») ∙ (ap open_in c.self.view_is ∙ c.requires.opened))

pub unreachable-requires : goal.unreachable-requires
unreachable-requires g c = no_line g.B.Feed.Feed.told c.self.inside.«open» c.args.line
    (ap open_in c.self.view_is ∙ c.requires.opened) (sym c.take.ensures.value ∙ c.in-None.is)

pub returns : goal.returns
returns g c =
    let feed = g.B.Feed.Feed.told in
    let child = g.B.Child.Child.told in
    let inside = c.self.inside in
    let was = sym c.take.ensures.value ∙ c.in-Some.is in
    let is = ap open_in c.self.view_is ∙ c.requires.opened in
    let of = line_is feed inside.«open» c.in-Some.open c.args.line is was in
    laid_at c.args.line _ c.args.self.now c.self.view_is (record {
      was_open = open_of feed c.in-Some.open;
      back = record {
        line = c.args.line;
        feed = feed c.in-Some.open.feed;
        child = child c.end.new.child;
      };
      was = ap (option_map (open_of feed)) was;
      of_line = of;
      is_back = (
        sym of,
        refl,
        record {
          of_line = subst (λ (o : Option ℕ). IfSome o (λ l. l ≡ c.args.line)) (sym c.end.ensures.line)
              c.requires.child.of_line;
          killed = c.end.ensures.killed 0 c.requires.child.not_killed;
        },
      );
      ended = ap (map (back_of feed child)) c.push_reserved.ensures.items
          ∙ map-append (back_of feed child) inside.ended.items
          (record { line = c.args.line; feed = c.in-Some.open.feed; child = c.end.new.child } ∷ []);
      by_berth = record {
        log = c.end.ensures.log;
        later = c.end.ensures.count;
        same = c.end.ensures.number;
      };
      rest = (ap (option_map (open_of feed)) c.take.ensures.after, refl);
    })
