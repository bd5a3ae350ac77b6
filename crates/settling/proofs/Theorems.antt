-- The sentences of specs/Theorems.antt, proved.
use mathlib.Core.Path.{sym, ◌∙◌, subst}
use mathlib.Core.Option.{Option}
use Rattle.settling.specs.Rank.{Shape}
use Rattle.settling.specs.Book.{overfull, good}
use Rattle.settling.specs.History.{fresh, hear, valid}
use Rattle.settling.specs.Meaning.{Sound}
use Rattle.settling.specs.Theorems.{Histories, HistoriesByMembers, OrderDoesNotMatter, AlwaysSound, AnswersAlongTheWay, OverfullForEver, SettlesOnce, Answers, RefusedChangesNothing, OfferSettles, LeastDepth, RoomIsUsed, RoomIsUsedAgain}
use Rattle.settling.proofs.Histories.{run_settled, settled_same, run_overfull, valid_over, hear_run, hear_sound}
use Rattle.settling.proofs.Sound.{fresh_sound, offer_sound}
use Rattle.settling.proofs.Winners.{settled_settles, settles_one}
use Rattle.settling.proofs.Table as table
use Rattle.settling.proofs.Offers as offers

module _ {A : Type 0} (B : Shape A) {O : Type 0} (taking : O → Option A) where
  pub histories : Histories B taking
  histories start s p = hear_run B taking (fresh B start) s ∙ run_settled B start (valid taking s) p

  pub histories_by_members : HistoriesByMembers B taking
  histories_by_members start s p = rw (histories start s p) (settled_settles B start (valid taking s) p)

  pub order_does_not_matter : OrderDoesNotMatter B taking
  order_does_not_matter start s t p f g =
      histories start s p ∙ settled_same B start (valid taking s) (valid taking t) (valid_over taking s t f) (valid_over taking t s g) ∙ sym (histories start t p)

  pub always_sound : AlwaysSound B taking
  always_sound start s p = hear_sound B taking (fresh B start) s (fresh_sound B start p)

  pub answers_along_the_way : AnswersAlongTheWay B taking
  answers_along_the_way start s a n p = table.answers B (hear B taking (fresh B start) s) a n (always_sound start s p)

  pub overfull_for_ever : OverfullForEver B taking
  overfull_for_ever s = hear_run B taking overfull s ∙ run_overfull B (valid taking s)

module _ {A : Type 0} (B : Shape A) where
  pub settles_once : SettlesOnce B
  settles_once = settles_one B

  pub answers : Answers B
  answers = table.answers B

  pub refused_changes_nothing : RefusedChangesNothing B
  refused_changes_nothing b a w = (table.refused_same B b a w, table.same_refused B b a w)

  pub offer_settles : OfferSettles B
  offer_settles d l a w p = offers.offer_settles B d l a w p

  pub least_depth : LeastDepth B
  least_depth d l a w p = offers.least_depth B d l a w p

  pub room_is_used : RoomIsUsed B
  room_is_used d l a w p = offers.room_is_used B d l a w p

  pub room_is_used_again : RoomIsUsedAgain B
  room_is_used_again d l a e m w q h x = room_is_used e m x (subst (Sound B) q (offer_sound B (good d l) a w))
