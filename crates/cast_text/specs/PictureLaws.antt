-- The picture grows as the script is played: what is seen is drawn.
use Rattle.std.proofs.Common.{◌≡◌, List, [], ◌∷◌, ◌++◌, Result, Ok, Err, refl, sym, ap, ◌∙◌}
use Rattle.cast_draw.specs.declared.picture.Picture.{Picture}
use Rattle.cast_draw.specs.Sheet.{Sheet, sheet_of}
use Rattle.cast_text.specs.declared.fault.TextFault.{TextFault}
use Rattle.cast_text.specs.Played.{Played, Observes}
use Rattle.cast_text.specs.Pictured.{drawn, drawn_at, Shows}

drawn-append : (sheet : Sheet) (first rest : List Played) → drawn sheet (first ++ rest) ≡ drawn (drawn sheet first) rest
unfolding drawn
drawn-append sheet [] rest = refl
drawn-append sheet (one ∷ first) rest = drawn-append (drawn_at sheet one) first rest

pub shows_none : (picture : Picture) → Shows picture picture (Ok tt) []
unfolding drawn
shows_none picture = refl

pub shows_more : (o p q : Picture) (result : Result (Unit {0}) TextFault) (first rest : List Played) → Shows o p (Ok tt) first → Shows p q result rest → Shows o q result (first ++ rest)
shows_more o p q (Ok done) first rest one two = two ∙ ap (λ sheet. drawn sheet rest) one ∙ sym (drawn-append (sheet_of o) first rest)
shows_more o p q (Err why) first rest one two = two

pub observes : Observes Shows (λ picture. Unit {0})
observes = record {
  none = λ picture ready. shows_none picture;
  more = shows_more;
  broken = λ o p why first rest shows. shows;
  wants = λ picture whole ready. refl;
}
