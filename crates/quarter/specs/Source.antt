-- Source document 004 (German), chapters 2 to 4, as it stands there and under its own symbols. So that every number is whole,
-- energies are in grains (1 Mvarh has 1,600,000), voltages in hundredths of a kilovolt and tariffs in 0.01 CHF/Mvarh. A
-- difference may be negative, so the formulas are over ℤ.
-- Assumes nothing.
use Rattle.std.specs.Prelude.{ℕ, ◌*◌, Bool, true, false, cond, ◌&&◌, List, [], ◌∷◌, ℤ, pos, nat_abs, ◌+ℤ◌, ◌-ℤ◌, ◌*ℤ◌}
use Rattle.std.proofs.Math.IntN.{sub_ℕ}
use Rattle.std.specs.Int.Signed.{lt_z, le_z}
use Rattle.quantity.specs.Fraction.{Fraction, ratio, product, sum}
use Rattle.quantity.specs.Quantity.{per_kvarh}
use Rattle.quarter.specs.declared.Role.{Role}
use Rattle.quarter.specs.declared.Role.TheVariants.{Active, SemiActive}
use Rattle.quarter.specs.declared.Level.{Level}
use Rattle.quarter.specs.declared.Level.TheVariants.{Kv220, Kv380}
use Rattle.quarter.specs.declared.Metered.{Metered}
use Rattle.quarter.specs.declared.Tariffs.{Tariffs}
use Rattle.quarter.specs.declared.Transformer.{Transformer}

-- a brace of lines, each a condition and a value: the value of the line whose condition holds, and 0 where none does
abbrev pub brace : List (Bool × ℤ) → ℤ
brace [] = pos 0
brace (line ∷ lines) = cond line.0 line.1 (brace lines)

-- 2: "W_Q = |W_Q,Bezug| − |W_Q,Lieferung|"
unfoldable pub WQ : Metered → ℤ
WQ m = sub_ℕ (per_kvarh * m.take) (per_kvarh * m.supply)

-- |W_Q|
unfoldable pub |WQ| : Metered → ℤ
|WQ| m = pos (nat_abs (WQ m))

-- 3.2: "U_ist: Durchschnittliche viertelstündliche Ist-Spannung", "U_soll: Von Swissgrid vorgegebene .. Soll-Spannung"
abbrev pub Uist : Metered → ℤ
Uist m = pos m.actual.0

abbrev pub Usoll : Metered → ℤ
Usoll m = pos m.set.0

-- 3.2: "LL = 1: Produktion und mit dem Übertragungsnetz verbunden", "0: Keine Produktion und nicht .. verbunden"
abbrev pub LL : Bool → ℤ
LL true = pos 1
LL false = pos 0

-- 3.2: "ΔU_Tol: 1 kV für 220-kV-Ebene, 2 kV für 380-kV-Ebene"
abbrev pub ΔUTol : Level → ℤ
ΔUTol Kv220 = pos 100
ΔUTol Kv380 = pos 200

-- 3.2: "ΔU_Frei: 1 kV für 220-kV-Ebene, 1 kV für 380-kV-Ebene"
abbrev pub ΔUFreiAktiv : Level → ℤ
ΔUFreiAktiv Kv220 = pos 100
ΔUFreiAktiv Kv380 = pos 100

-- 4.2: "ΔU_Frei: 2 kV für 220-kV-Ebene, 3 kV für 380-kV-Ebene"
abbrev pub ΔUFreiHalbaktiv : Level → ℤ
ΔUFreiHalbaktiv Kv220 = pos 200
ΔUFreiHalbaktiv Kv380 = pos 300

-- 3.2: W_Q,vergütet of the active role
unfoldable pub vergütet_aktiv : Level → Metered → ℤ
vergütet_aktiv l m =
    brace
    ((lt_z (WQ m) (pos 0) && lt_z (Uist m) (Usoll m +ℤ ΔUTol l), |WQ| m *ℤ LL m.lamp)
    ∷ (lt_z (pos 0) (WQ m) && lt_z (Usoll m -ℤ ΔUTol l) (Uist m), |WQ| m *ℤ LL m.lamp)
    ∷ [])

-- 3.2: W_Q,frei of the active role
unfoldable pub frei_aktiv : Level → Metered → ℤ
frei_aktiv l m =
    brace
    ((
      lt_z (WQ m) (pos 0)
          && (le_z (Usoll m +ℤ ΔUTol l) (Uist m) && lt_z (Uist m) (Usoll m +ℤ ΔUTol l +ℤ ΔUFreiAktiv l)),
      |WQ| m *ℤ LL m.lamp,
    )
    ∷ (
      lt_z (pos 0) (WQ m)
          && (lt_z (Usoll m -ℤ ΔUTol l -ℤ ΔUFreiAktiv l) (Uist m) && le_z (Uist m) (Usoll m -ℤ ΔUTol l)),
      |WQ| m *ℤ LL m.lamp,
    )
    ∷ [])

-- 3.2: W_Q,verrechnet of the active role
unfoldable pub verrechnet_aktiv : Level → Metered → ℤ
verrechnet_aktiv l m =
    brace
    ((lt_z (WQ m) (pos 0) && le_z (Usoll m +ℤ ΔUTol l +ℤ ΔUFreiAktiv l) (Uist m), |WQ| m *ℤ LL m.lamp)
    ∷ (lt_z (pos 0) (WQ m) && le_z (Uist m) (Usoll m -ℤ ΔUTol l -ℤ ΔUFreiAktiv l), |WQ| m *ℤ LL m.lamp)
    ∷ [])

-- 4.2: W_Q,frei of the semi-active role, with ΔW_Q,lim in grains
unfoldable pub frei_halbaktiv : ℕ → Level → Metered → ℤ
frei_halbaktiv lim l m =
    brace
    ((lt_z (|WQ| m) (pos lim), |WQ| m)
    ∷ (
      lt_z (pos lim) (|WQ| m)
          && (le_z (Usoll m -ℤ ΔUFreiHalbaktiv l) (Uist m) && le_z (Uist m) (Usoll m +ℤ ΔUFreiHalbaktiv l)),
      |WQ| m,
    )
    ∷ [])

-- 4.1: "Die ausgetauschte Netto-Blindenergie pro Viertelstunde innerhalb des Freibandes wird weder vergütet noch verrechnet":
-- inside the free band the lines of 4.2 for both do not count, which say nothing of |W_Q|
unfoldable pub outside_free_band : ℕ → Metered → ℤ → ℤ
outside_free_band lim m value = cond (lt_z (|WQ| m) (pos lim)) (pos 0) value

-- 4.2: W_Q,vergütet of the semi-active role
unfoldable pub vergütet_halbaktiv : ℕ → Level → Metered → ℤ
vergütet_halbaktiv lim l m =
    outside_free_band lim m
    (brace
    ((lt_z (WQ m) (pos 0) && lt_z (Uist m) (Usoll m -ℤ ΔUFreiHalbaktiv l), |WQ| m -ℤ pos lim)
    ∷ (lt_z (pos 0) (WQ m) && lt_z (Usoll m +ℤ ΔUFreiHalbaktiv l) (Uist m), |WQ| m -ℤ pos lim)
    ∷ []))

-- 4.2: W_Q,verrechnet of the semi-active role
unfoldable pub verrechnet_halbaktiv : ℕ → Level → Metered → ℤ
verrechnet_halbaktiv lim l m =
    outside_free_band lim m
    (brace
    ((lt_z (WQ m) (pos 0) && lt_z (Usoll m +ℤ ΔUFreiHalbaktiv l) (Uist m), |WQ| m -ℤ pos lim)
    ∷ (lt_z (pos 0) (WQ m) && lt_z (Uist m) (Usoll m -ℤ ΔUFreiHalbaktiv l), |WQ| m -ℤ pos lim)
    ∷ []))

-- each quantity of a role; the band of the semi-active one is ΔW_Q,lim
unfoldable pub vergütet : Role → Level → Metered → ℤ
vergütet Active l m = vergütet_aktiv l m
vergütet (SemiActive b) l m = vergütet_halbaktiv b.0 l m

unfoldable pub frei : Role → Level → Metered → ℤ
frei Active l m = frei_aktiv l m
frei (SemiActive b) l m = frei_halbaktiv b.0 l m

unfoldable pub verrechnet : Role → Level → Metered → ℤ
verrechnet Active l m = verrechnet_aktiv l m
verrechnet (SemiActive b) l m = verrechnet_halbaktiv b.0 l m

-- 3.3: "VB_aktiv = W_Q,vergütet · V_aktiv". 4.3: "VB_halbaktiv = W_Q,vergütet · V_halbaktiv"
unfoldable pub VB : Role → Level → Metered → Tariffs → ℤ
VB role l m t = vergütet role l m *ℤ pos t.payment

-- 3.3: "RB_aktiv = W_Q,verrechnet · (T_ind. WQ + P_nicht anforderungskonform)". 4.3: "RB_halbaktiv = W_Q,verrechnet · T_ind, WQ"
unfoldable pub RB : Role → Level → Metered → Tariffs → ℤ
RB Active l m t = verrechnet Active l m *ℤ (pos t.billing +ℤ pos t.penalty)
RB (SemiActive b) l m t = verrechnet (SemiActive b) l m *ℤ pos t.billing

-- 4.2: "ΔW_Q,Trafo,i = 1/4 · u_k/100 · S_n · 0.25h" in Mvarh, u_k in % and S_n in MVA, of which 01's uk and Sn are hundredths
-- and tenths
unfoldable pub ΔWQTrafo : Transformer → Fraction
ΔWQTrafo t =
    product (ratio 1 4)
    (product (product (ratio t.uk 100) (ratio 1 100))
    (product (ratio t.sn 10)
    (ratio 25 100)))

-- 4.2: "ΔW_Q,lim = Σ_i ΔW_Q,Trafo,i"
unfoldable pub ΔWQlim : List Transformer → Fraction
ΔWQlim [] = ratio 0 1
ΔWQlim (t ∷ ts) = sum (ΔWQTrafo t) (ΔWQlim ts)
