-- What names activities of the setup names homes of its site.
use Rattle.std.proofs.Common.{◌≡◌, List, [], ◌∷◌}
use Rattle.m3_base.specs.declared.event.Event.{Event}
use Rattle.m3_base.specs.declared.order.Order.{Order}
use Rattle.m3_base.specs.Ideal.State.{holder}
use Rattle.m3_base.specs.Lists.EachElement.{Each}
use Rattle.m3_base.specs.Setup.Rules.{SetupValue, IsValid}
use Rattle.m3_model.specs.Events.{IsOfSetup}
use Rattle.m3_model.specs.SetupOpening.{opened_site}
use Rattle.m3_machine.specs.EventNames.{NamesActs}
use Rattle.m3_machine.proofs.DeclaredHomes.{declared_home, home_declared}

pub of_setup : (s : SetupValue) → IsValid s → (e : Event) → NamesActs s e → IsOfSetup (opened_site s) e
of_setup s v (Event.Do a c) n = declared_home s v a n
of_setup s v (Event.Tend a) n = declared_home s v a n
of_setup s v (Event.Order (Order.Switch t a)) n = declared_home s v a n
of_setup s v (Event.Order (Order.Grant line)) n = (declared_home s v (holder line) n.0, n.1)
of_setup s v (Event.Order (Order.Revoke g)) n = tt
of_setup s v (Event.Turn a) n = tt
of_setup s v (Event.Take to from) n = tt
of_setup s v Event.Close n = tt
of_setup s v (Event.File l) n = tt

pub orders_of_setup : (s : SetupValue) → IsValid s → (os : List Order) → Each (λ o. NamesActs s (Event.Order o)) os → Each (λ o. IsOfSetup (opened_site s) (Event.Order o)) os
orders_of_setup s v [] k = tt
orders_of_setup s v (o ∷ os) k = (of_setup s v (Event.Order o) k.0, orders_of_setup s v os k.1)

-- and what names homes of the site names activities that the setup declares
pub names_of_setup : (s : SetupValue) → IsValid s → (e : Event) → IsOfSetup (opened_site s) e → NamesActs s e
names_of_setup s v (Event.Do a c) n = home_declared s v a n
names_of_setup s v (Event.Tend a) n = home_declared s v a n
names_of_setup s v (Event.Order (Order.Switch t a)) n = home_declared s v a n
names_of_setup s v (Event.Order (Order.Grant line)) n = (home_declared s v (holder line) n.0, n.1)
names_of_setup s v (Event.Order (Order.Revoke g)) n = tt
names_of_setup s v (Event.Turn a) n = tt
names_of_setup s v (Event.Take to from) n = tt
names_of_setup s v Event.Close n = tt
names_of_setup s v (Event.File l) n = tt
