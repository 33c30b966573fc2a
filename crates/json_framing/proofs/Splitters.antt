-- A splitter of lines after a piece, and after a line.
use Rattle.std.proofs.Common.{◌≡◌, ℕ, ◌+◌, ◌-◌, ◌<◌, ◌≤◌, true, false, List, [], ◌∷◌, ◌++◌, length, take, drop, Option, Some, None, refl, sym, ap, subst, ◌∙◌, arith}
use Rattle.std.specs.Prelude.{is_some, ◌&&◌, ◌||◌, ◌==◌, min}
use Rattle.std.proofs.lemmas.List.{drop-drop, length-drop, length-take-le, take-append-drop, take-take, append-nil}
use Rattle.std.proofs.lemmas.List.Folds.{list_all-append}
use Rattle.byte_pieces.proofs.Places.{take-append-take}
use Rattle.byte_pieces.specs.Queues.{IsPartAt}
use Rattle.memchr.specs.Find.{IsFirstByte, is_byte}
use Rattle.delimited_framing.specs.declared.frame.FrameFault.{FrameFault}
use Rattle.delimited_framing.specs.Front.{Whole, Unfinished, Bad, FramesOf, FaultOf}
use Rattle.delimited_framing.specs.Splitter.{Held, StandsFor, fed_more}
use Rattle.delimited_framing.proofs.Streams.{read_on, held_at}
use Rattle.json_framing.specs.declared.line.Found.{Found}
use Rattle.json_framing.specs.declared.line.Found.TheVariants.{Whole as Whole_at}
use Rattle.json_framing.specs.Lines.{is_blank, line_length, line_at, says_something, Holds, Skips, line_form, IsLineAt}
use Rattle.json_framing.proofs.Streams.{length_at_end, length_at_feed, length_from, length_stays, length_more, Holds-more, Holds-append, one_line, said_kept, unfinished_length}

pub none_is : (o : Option FrameFault) → false ≡ is_some o → o ≡ None
none_is None e = refl
none_is (Some x) e = absurd cc

pub not_some : (o : Option FrameFault) → ((x : FrameFault) → o ≡ Some x → ⊥) → o ≡ None
not_some None other = refl
not_some (Some x) other = absurd (other x refl)

-- ---- a piece

pub looked_more : (looked : ℕ) (rest after piece : List ℕ) → looked ≤ line_length rest → after ≡ rest ++ piece → looked ≤ line_length after
looked_more looked rest after piece le same = let more : line_length rest ≤ line_length after = rw same (length_more rest piece) in omega arith

pub takes_found : (fed : List ℕ) (given : List (List ℕ)) (limit : ℕ) (items after piece : List ℕ) (fault : Option FrameFault) (old : Held) → held_at limit 0 items fault ≡ old → old.fault ≡ None
    → after ≡ items ++ piece → StandsFor line_form fed given old → StandsFor line_form (fed_more old.fault fed piece) given (held_at limit 0 after fault)
takes_found fed given limit items after piece fault old is none same s =
    let none' : fault ≡ None = ap (λ (h : Held). h.fault) is ∙ none in
    let limit' : old.limit ≡ limit = ap (λ (h : Held). h.limit) (sym is) in
    let rest' : old.rest ++ piece ≡ after = ap (λ (h : Held). h.rest ++ piece) (sym is) ∙ sym same in
    let holds : Holds limit (fed ++ piece) given after = subst (λ (n : ℕ). Holds n (fed ++ piece) given after) limit' (subst (λ (r : List ℕ). Holds old.limit (fed ++ piece) given r) rest' (Holds-more old.limit fed given old.rest piece s.holds)) in
    rw (none, none') (record { holds = holds; fault = tt })

-- ---- what was read

pub found_here : (limit : ℕ) (rest : List ℕ) (found : Found) (old : Held) → limit ≡ old.limit → rest ≡ old.rest → IsLineAt limit rest found → IsLineAt old.limit old.rest found
found_here limit rest found old is same at = subst (λ (r : List ℕ). IsLineAt old.limit r found) same (subst (λ (n : ℕ). IsLineAt n rest found) is at)

pub looked_through : (bytes rest : List ℕ) (start : ℕ) (old : Held) → bytes ≡ old.rest → line_at old.limit (drop start old.rest) ≡ Unfinished → length bytes - start ≤ line_length (drop start old.rest)
looked_through bytes rest start old same unfinished =
    let len : length bytes ≡ length old.rest = ap length same in
    omega (arith, length-drop start old.rest, unfinished_length old.limit (drop start old.rest) unfinished)

stands_on : (fed : List ℕ) (given said : List (List ℕ)) (n : ℕ) (old : Held) → old.fault ≡ None → Holds old.limit old.rest said (drop n old.rest) → StandsFor line_form fed given old → StandsFor line_form fed (given ++ said) (read_on n old)
stands_on fed given said n old none holds s =
    record { holds = Holds-append old.limit fed given said old.rest (drop n old.rest) s.holds holds; fault = rw none tt }

-- a line that says something, behind blank ones
pub gives_line : (fed : List ℕ) (given : List (List ℕ)) (start n : ℕ) (line : List ℕ) (old new : Held) → old.fault ≡ None → Skips old.limit old.rest (drop start old.rest)
    → line_at old.limit (drop start old.rest) ≡ Whole line (drop n old.rest) → says_something line ≡ true → new ≡ read_on n old
    → StandsFor line_form fed given old → StandsFor line_form fed (given ++ line ∷ []) new × (new.limit ≡ old.limit) × (new.fault ≡ old.fault)
gives_line fed given start n line old new none skipped whole says is s =
    let here = one_line old.limit (drop start old.rest) line (drop n old.rest) (line ∷ []) whole (said_kept line says) in
    let holds = Holds-append old.limit old.rest [] (line ∷ []) (drop start old.rest) (drop n old.rest) skipped here in
    let after = stands_on fed given (line ∷ []) n old none holds s in
    (subst (λ (h : Held). StandsFor line_form fed (given ++ line ∷ []) h) (sym is) after, ap (λ (h : Held). h.limit) is, ap (λ (h : Held). h.fault) is)

pub gives_line_as : (fed : List ℕ) (given : List (List ℕ)) (start stop : ℕ) (bytes line : List ℕ) (old new : Held) → old.fault ≡ None → IsLineAt old.limit old.rest (Whole_at start stop) → bytes ≡ old.rest → line ≡ take (stop - start) (drop start bytes)
    → new ≡ read_on (stop + 1) old → StandsFor line_form fed given old → StandsFor line_form fed (given ++ line ∷ []) new × (new.limit ≡ old.limit) × (new.fault ≡ old.fault)
gives_line_as fed given start stop bytes line old new none at same is read s =
    let is' : line ≡ take (stop - start) (drop start old.rest) = is ∙ ap (λ (b : List ℕ). take (stop - start) (drop start b)) same in
    let whole : line_at old.limit (drop start old.rest) ≡ Whole line (drop (stop + 1) old.rest) = at.1 ∙ ap (λ (l : List ℕ). Whole l (drop (stop + 1) old.rest)) (sym is') in
    let says : says_something line ≡ true = ap says_something is' ∙ at.2 in
    gives_line fed given start (stop + 1) line old new none at.0 whole says read s

skips : (fed : List ℕ) (given : List (List ℕ)) (n : ℕ) (old : Held) → Skips old.limit old.rest (drop n old.rest) → StandsFor line_form fed given old → Holds old.limit fed given (drop n old.rest)
skips fed given n old skipped s =
    subst (λ (ls : List (List ℕ)). Holds old.limit fed ls (drop n old.rest)) (append-nil given) (Holds-append old.limit fed given [] old.rest (drop n old.rest) s.holds skipped)

-- no whole line is left
pub gives_nothing : (fed : List ℕ) (given : List (List ℕ)) (n : ℕ) (old new : Held) → old.fault ≡ None → Skips old.limit old.rest (drop n old.rest) → line_at old.limit (drop n old.rest) ≡ Unfinished → new ≡ read_on n old
    → StandsFor line_form fed given old → StandsFor line_form fed given new × (new.limit ≡ old.limit) × (new.fault ≡ old.fault) × FramesOf line_form fed old.limit given new.rest
gives_nothing fed given n old new none skipped unfinished is s =
    let holds = skips fed given n old skipped s in
    let stands : StandsFor line_form fed given (read_on n old) = record { holds = holds; fault = rw none tt } in
    let whole : FramesOf line_form fed old.limit given (drop n old.rest) = record { holds = holds; unfinished = unfinished } in
    (subst (λ (h : Held). StandsFor line_form fed given h) (sym is) stands, ap (λ (h : Held). h.limit) is, ap (λ (h : Held). h.fault) is, subst (λ (h : Held). FramesOf line_form fed old.limit given h.rest) (sym is) whole)

-- a line that is too long
pub gives_fault : (fed : List ℕ) (given : List (List ℕ)) (n : ℕ) (fault : FrameFault) (old new : Held) → Skips old.limit old.rest (drop n old.rest) → line_at old.limit (drop n old.rest) ≡ Bad fault → new ≡ record { limit = old.limit; rest = drop n old.rest; fault = Some fault }
    → StandsFor line_form fed given old → StandsFor line_form fed given new × (new.limit ≡ old.limit) × (new.fault ≡ Some fault) × FaultOf line_form fed old.limit given fault
gives_fault fed given n fault old new skipped bad is s =
    let holds = skips fed given n old skipped s in
    let stands : StandsFor line_form fed given (record { limit = old.limit; rest = drop n old.rest; fault = Some fault }) = record { holds = holds; fault = bad } in
    (subst (λ (h : Held). StandsFor line_form fed given h) (sym is) stands, ap (λ (h : Held). h.limit) is, ap (λ (h : Held). h.fault) is, record { rest = drop n old.rest; holds = holds; bad = bad })

-- ---- a part of what is held

part_rest : (bytes part : List ℕ) (at : ℕ) → IsPartAt bytes at part → drop at bytes ≡ part ++ drop (at + length part) bytes
part_rest bytes part at p =
    let front = p.front in
    sym (take-append-drop (length part) (drop at bytes)) ∙ (ap (λ (x : List ℕ). x ++ drop (length part) (drop at bytes)) (sym front) ∙ ap (λ (x : List ℕ). part ++ x) (drop-drop (length part) at bytes))

pub no_feed_here : (bytes part : List ℕ) (from at : ℕ) → IsPartAt bytes at part → at ≤ length bytes → from + line_length (drop from bytes) ≡ at + line_length (drop at bytes) → IsFirstByte (is_byte 10) part None
    → (at + length part ≤ length bytes) × (from + line_length (drop from bytes) ≡ at + length part + line_length (drop (at + length part) bytes))
no_feed_here bytes part from at p low before none =
    let within = p.within in
    let here : line_length (drop at bytes) ≡ line_length (part ++ drop (at + length part) bytes) = ap line_length (part_rest bytes part at p) in
    let all : line_length part ≡ length part = length_at_end part none in
    let more : line_length part ≤ line_length (part ++ drop (at + length part) bytes) = length_more part (drop (at + length part) bytes) in
    let on : line_length (drop at bytes) ≡ length part + line_length (drop (length part) (drop at bytes)) = length_from (drop at bytes) (length part) (omega arith) in
    let same : line_length (drop (length part) (drop at bytes)) ≡ line_length (drop (at + length part) bytes) = ap line_length (drop-drop (length part) at bytes) in
    (omega arith, omega arith)

pub feed_here : (bytes part : List ℕ) (from at k : ℕ) → IsPartAt bytes at part → from + line_length (drop from bytes) ≡ at + line_length (drop at bytes) → IsFirstByte (is_byte 10) part (Some k) → at + k ≡ from + line_length (drop from bytes)
feed_here bytes part from at k p before first =
    let here : line_length (drop at bytes) ≡ line_length (part ++ drop (at + length part) bytes) = ap line_length (part_rest bytes part at p) in
    let found : line_length part ≡ k = length_at_feed part k first in
    let high : k < length part = first.0.high in
    let stays : line_length (part ++ drop (at + length part) bytes) ≡ line_length part = length_stays part (drop (at + length part) bytes) (omega arith) in
    omega arith

pub blank_on : (bytes part : List ℕ) (at fin m : ℕ) → IsPartAt bytes at part → at ≤ fin → m ≡ min (length part) (fin - at)
    → (at + length (take m part) ≤ fin) × (is_blank (take (fin - at) (drop at bytes)) ≡ (is_blank (take m part) && is_blank (take (fin - (at + length (take m part))) (drop (at + length (take m part)) bytes))))
blank_on bytes part at fin m p low least =
    let short : m ≤ length part = omega arith in
    let n : length (take m part) ≡ m = length-take-le m part short in
    let front = p.front in
    let piece : take m part ≡ take m (drop at bytes) = ap (take m) front ∙ take-take m (length part) (drop at bytes) short in
    let sum : fin - at ≡ m + (fin - (at + m)) = omega arith in
    let whole : take (fin - at) (drop at bytes) ≡ take m part ++ take (fin - (at + m)) (drop (at + m) bytes) =
    ap (λ (k : ℕ). take k (drop at bytes)) sum ∙ (sym (take-append-take m (fin - (at + m)) (drop at bytes))
    ∙ (ap (λ (x : List ℕ). x ++ take (fin - (at + m)) (drop m (drop at bytes))) (sym piece) ∙ ap (λ (x : List ℕ). take m part ++ take (fin - (at + m)) x) (drop-drop m at bytes))) in
    let both : is_blank (take (fin - at) (drop at bytes)) ≡ (is_blank (take m part) && is_blank (take (fin - (at + m)) (drop (at + m) bytes))) =
    ap is_blank whole ∙ list_all-append (λ b. b == 32 || (b == 9 || b == 13)) (take m part) (take (fin - (at + m)) (drop (at + m) bytes)) in
    (omega arith, both ∙ ap (λ (k : ℕ). is_blank (take m part) && is_blank (take (fin - (at + k)) (drop (at + k) bytes))) (sym n))
