-- What arose of a packet goes out.
use Rattle.std.proofs.Common.{◌≡◌, ℕ, List, [], ◌∷◌, ◌++◌, Option, Some, None, refl, sym, ap, ◌∙◌}
use Rattle.std.specs.Prelude.{is_none}
use Rattle.m3_base.specs.declared.packet.Packet.{Packet}
use Rattle.m3_base.specs.Placement.Routing.{target}
use Rattle.m3_core.specs.declared.parcel.Emit.{Emit}
use Rattle.m3_model.specs.Config.Site.{Site}
use Rattle.m3_model.specs.Parcel.{Parcel}
use Rattle.m3_model.specs.Kernel.State.{Kernel}
use Rattle.m3_model.specs.LocalStep.{closed_out}
use Rattle.m3_kernel.specs.ParcelView.{out_of}
use Rattle.m3_model.specs.Kernel.Step.{entry_for, route_to, answer_routed}
use Rattle.m3_kernel.specs.ArrivalView.{AtMostOne}
use Rattle.m3_kernel.specs.StepContracts.{Routes, IsAnswer, SendsBack}

none_freed : (answer : Option Packet) (freed : Option ℕ) (p : Packet) → answer ≡ Some p → AtMostOne answer freed → freed ≡ None
none_freed answer None p e one = refl
none_freed None (Some g) p e one = absurd (cc)
none_freed (Some q) (Some g) p e one = absurd one

pub nothing_more : (xs : List (ℕ × Parcel)) → xs ++ [] ≡ xs
nothing_more [] = refl
nothing_more (x ∷ xs) = ap (λ ys. x ∷ ys) (nothing_more xs)

pub sends_answer : (h : Site) (k : Kernel) (answer : Option Packet) (at : ℕ) → IsAnswer k answer at → (p : Packet) → answer ≡ Some p → (freed : Option ℕ) → AtMostOne answer freed → (emit : Option Emit) (new : Kernel) → Routes h k at p emit new → SendsBack h k answer freed emit new
sends_answer h k answer at by p e freed one emit new routes =
    let same : Some by.packet ≡ Some p = sym by.answers ∙ e in
    let aimed : target p ≡ Some by.aim = (let q : by.packet ≡ p = cc in ap target (sym q) ∙ by.target_is) in
    record {
      held = is_none emit;
      out = out_of emit;
      routed =
          ap (answer_routed h k) e
          ∙ ap (λ o. route_to h p k (entry_for o k)) aimed
          ∙ ap (route_to h p k) (by.place.found ∙ sym by.place.here)
          ∙ routes;
      all = ap (λ f. out_of emit ++ closed_out f) (none_freed answer freed p e one) ∙ nothing_more (out_of emit);
    }
