-- What real objects are seen as: the counts of the traits, and the calls that were made on them.
use Rattle.std.specs.Prelude.{ℕ, zero, suc, List, Bool, Option, None, Some}
use Rattle.outside.specs.declared.berth.BerthCall.{BerthCall}
use Rattle.outside.specs.declared.floor.FloorRead.{FloorRead}
use Rattle.outside.specs.declared.place.PlaceWrite.{PlaceWrite}
use Rattle.outside.specs.declared.shop.ShopCall.{ShopCall}

-- Until it has failed it tells. How much was given by a call that failed no caller is told.
abbrev pub until_a_fault : {A : Type 0} → ℕ → List A → Option (List A)
until_a_fault zero xs = Some xs
until_a_fault (suc n) xs = None

pub record SinkSeen : Type 0 where
  pub faults : ℕ
  pub said : List ℕ

pub record PlaceSeen : Type 0 where
  pub number : ℕ
  pub faults : ℕ
  pub log : List PlaceWrite

pub record FeedSeen : Type 0 where
  pub line : ℕ
  pub faults : ℕ
  pub said : List ℕ

pub record TapSeen : Type 0 where
  pub line : Option ℕ
  pub faults : ℕ
  pub said : List ℕ
  pub ended : Bool

pub record ChildSeen : Type 0 where
  pub line : ℕ
  pub kills : ℕ

pub record BerthSeen : Type 0 where
  pub number : ℕ
  pub faults : ℕ
  pub log : List BerthCall

pub record FloorSeen : Type 0 where
  pub faults : ℕ
  pub berths : ℕ
  pub places : ℕ
  pub log : List FloorRead

pub record ShopSeen : Type 0 where
  pub faults : ℕ
  pub log : List ShopCall
