-- The standard's subpel_filters (8.5.2.4, in the order of interp_filter: 0 regular, 1 smooth, 2 sharp, 3 bilinear), as signed numbers:
-- filter, then phase, then tap. Assumes nothing.
use Rattle.std.specs.Prelude.{ℕ, List, [], ◌∷◌, ℤ, pos, negsuc, get_or}

-- eight taps
abbrev pub row8 : ℤ → ℤ → ℤ → ℤ → ℤ → ℤ → ℤ → ℤ → List ℤ
row8 a b c d e f g h = a ∷ b ∷ c ∷ d ∷ e ∷ f ∷ g ∷ h ∷ []

unfoldable pub regular : List (List ℤ)
regular =
    row8 (pos 0) (pos 0) (pos 0) (pos 128) (pos 0) (pos 0) (pos 0) (pos 0)
    ∷ row8 (pos 0) (pos 1) (negsuc 4) (pos 126) (pos 8) (negsuc 2) (pos 1) (pos 0)
    ∷ row8 (negsuc 0) (pos 3) (negsuc 9) (pos 122) (pos 18) (negsuc 5) (pos 2) (pos 0)
    ∷ row8 (negsuc 0) (pos 4) (negsuc 12) (pos 118) (pos 27) (negsuc 8) (pos 3) (negsuc 0)
    ∷ row8 (negsuc 0) (pos 4) (negsuc 15) (pos 112) (pos 37) (negsuc 10) (pos 4) (negsuc 0)
    ∷ row8 (negsuc 0) (pos 5) (negsuc 17) (pos 105) (pos 48) (negsuc 13) (pos 4) (negsuc 0)
    ∷ row8 (negsuc 0) (pos 5) (negsuc 18) (pos 97) (pos 58) (negsuc 15) (pos 5) (negsuc 0)
    ∷ row8 (negsuc 0) (pos 6) (negsuc 18) (pos 88) (pos 68) (negsuc 17) (pos 5) (negsuc 0)
    ∷ row8 (negsuc 0) (pos 6) (negsuc 18) (pos 78) (pos 78) (negsuc 18) (pos 6) (negsuc 0)
    ∷ row8 (negsuc 0) (pos 5) (negsuc 17) (pos 68) (pos 88) (negsuc 18) (pos 6) (negsuc 0)
    ∷ row8 (negsuc 0) (pos 5) (negsuc 15) (pos 58) (pos 97) (negsuc 18) (pos 5) (negsuc 0)
    ∷ row8 (negsuc 0) (pos 4) (negsuc 13) (pos 48) (pos 105) (negsuc 17) (pos 5) (negsuc 0)
    ∷ row8 (negsuc 0) (pos 4) (negsuc 10) (pos 37) (pos 112) (negsuc 15) (pos 4) (negsuc 0)
    ∷ row8 (negsuc 0) (pos 3) (negsuc 8) (pos 27) (pos 118) (negsuc 12) (pos 4) (negsuc 0)
    ∷ row8 (pos 0) (pos 2) (negsuc 5) (pos 18) (pos 122) (negsuc 9) (pos 3) (negsuc 0)
    ∷ row8 (pos 0) (pos 1) (negsuc 2) (pos 8) (pos 126) (negsuc 4) (pos 1) (pos 0)
    ∷ []

unfoldable pub smooth : List (List ℤ)
smooth =
    row8 (pos 0) (pos 0) (pos 0) (pos 128) (pos 0) (pos 0) (pos 0) (pos 0)
    ∷ row8 (negsuc 2) (negsuc 0) (pos 32) (pos 64) (pos 38) (pos 1) (negsuc 2) (pos 0)
    ∷ row8 (negsuc 1) (negsuc 1) (pos 29) (pos 63) (pos 41) (pos 2) (negsuc 2) (pos 0)
    ∷ row8 (negsuc 1) (negsuc 1) (pos 26) (pos 63) (pos 43) (pos 4) (negsuc 3) (pos 0)
    ∷ row8 (negsuc 1) (negsuc 2) (pos 24) (pos 62) (pos 46) (pos 5) (negsuc 3) (pos 0)
    ∷ row8 (negsuc 1) (negsuc 2) (pos 21) (pos 60) (pos 49) (pos 7) (negsuc 3) (pos 0)
    ∷ row8 (negsuc 0) (negsuc 3) (pos 18) (pos 59) (pos 51) (pos 9) (negsuc 3) (pos 0)
    ∷ row8 (negsuc 0) (negsuc 3) (pos 16) (pos 57) (pos 53) (pos 12) (negsuc 3) (negsuc 0)
    ∷ row8 (negsuc 0) (negsuc 3) (pos 14) (pos 55) (pos 55) (pos 14) (negsuc 3) (negsuc 0)
    ∷ row8 (negsuc 0) (negsuc 3) (pos 12) (pos 53) (pos 57) (pos 16) (negsuc 3) (negsuc 0)
    ∷ row8 (pos 0) (negsuc 3) (pos 9) (pos 51) (pos 59) (pos 18) (negsuc 3) (negsuc 0)
    ∷ row8 (pos 0) (negsuc 3) (pos 7) (pos 49) (pos 60) (pos 21) (negsuc 2) (negsuc 1)
    ∷ row8 (pos 0) (negsuc 3) (pos 5) (pos 46) (pos 62) (pos 24) (negsuc 2) (negsuc 1)
    ∷ row8 (pos 0) (negsuc 3) (pos 4) (pos 43) (pos 63) (pos 26) (negsuc 1) (negsuc 1)
    ∷ row8 (pos 0) (negsuc 2) (pos 2) (pos 41) (pos 63) (pos 29) (negsuc 1) (negsuc 1)
    ∷ row8 (pos 0) (negsuc 2) (pos 1) (pos 38) (pos 64) (pos 32) (negsuc 0) (negsuc 2)
    ∷ []

unfoldable pub sharp : List (List ℤ)
sharp =
    row8 (pos 0) (pos 0) (pos 0) (pos 128) (pos 0) (pos 0) (pos 0) (pos 0)
    ∷ row8 (negsuc 0) (pos 3) (negsuc 6) (pos 127) (pos 8) (negsuc 2) (pos 1) (pos 0)
    ∷ row8 (negsuc 1) (pos 5) (negsuc 12) (pos 125) (pos 17) (negsuc 5) (pos 3) (negsuc 0)
    ∷ row8 (negsuc 2) (pos 7) (negsuc 16) (pos 121) (pos 27) (negsuc 9) (pos 5) (negsuc 1)
    ∷ row8 (negsuc 3) (pos 9) (negsuc 19) (pos 115) (pos 37) (negsuc 12) (pos 6) (negsuc 1)
    ∷ row8 (negsuc 3) (pos 10) (negsuc 22) (pos 108) (pos 48) (negsuc 15) (pos 8) (negsuc 2)
    ∷ row8 (negsuc 3) (pos 10) (negsuc 23) (pos 100) (pos 59) (negsuc 18) (pos 9) (negsuc 2)
    ∷ row8 (negsuc 3) (pos 11) (negsuc 23) (pos 90) (pos 70) (negsuc 20) (pos 10) (negsuc 3)
    ∷ row8 (negsuc 3) (pos 11) (negsuc 22) (pos 80) (pos 80) (negsuc 22) (pos 11) (negsuc 3)
    ∷ row8 (negsuc 3) (pos 10) (negsuc 20) (pos 70) (pos 90) (negsuc 23) (pos 11) (negsuc 3)
    ∷ row8 (negsuc 2) (pos 9) (negsuc 18) (pos 59) (pos 100) (negsuc 23) (pos 10) (negsuc 3)
    ∷ row8 (negsuc 2) (pos 8) (negsuc 15) (pos 48) (pos 108) (negsuc 22) (pos 10) (negsuc 3)
    ∷ row8 (negsuc 1) (pos 6) (negsuc 12) (pos 37) (pos 115) (negsuc 19) (pos 9) (negsuc 3)
    ∷ row8 (negsuc 1) (pos 5) (negsuc 9) (pos 27) (pos 121) (negsuc 16) (pos 7) (negsuc 2)
    ∷ row8 (negsuc 0) (pos 3) (negsuc 5) (pos 17) (pos 125) (negsuc 12) (pos 5) (negsuc 1)
    ∷ row8 (pos 0) (pos 1) (negsuc 2) (pos 8) (pos 127) (negsuc 6) (pos 3) (negsuc 0)
    ∷ []

unfoldable pub bilinear : List (List ℤ)
bilinear =
    row8 (pos 0) (pos 0) (pos 0) (pos 128) (pos 0) (pos 0) (pos 0) (pos 0)
    ∷ row8 (pos 0) (pos 0) (pos 0) (pos 120) (pos 8) (pos 0) (pos 0) (pos 0)
    ∷ row8 (pos 0) (pos 0) (pos 0) (pos 112) (pos 16) (pos 0) (pos 0) (pos 0)
    ∷ row8 (pos 0) (pos 0) (pos 0) (pos 104) (pos 24) (pos 0) (pos 0) (pos 0)
    ∷ row8 (pos 0) (pos 0) (pos 0) (pos 96) (pos 32) (pos 0) (pos 0) (pos 0)
    ∷ row8 (pos 0) (pos 0) (pos 0) (pos 88) (pos 40) (pos 0) (pos 0) (pos 0)
    ∷ row8 (pos 0) (pos 0) (pos 0) (pos 80) (pos 48) (pos 0) (pos 0) (pos 0)
    ∷ row8 (pos 0) (pos 0) (pos 0) (pos 72) (pos 56) (pos 0) (pos 0) (pos 0)
    ∷ row8 (pos 0) (pos 0) (pos 0) (pos 64) (pos 64) (pos 0) (pos 0) (pos 0)
    ∷ row8 (pos 0) (pos 0) (pos 0) (pos 56) (pos 72) (pos 0) (pos 0) (pos 0)
    ∷ row8 (pos 0) (pos 0) (pos 0) (pos 48) (pos 80) (pos 0) (pos 0) (pos 0)
    ∷ row8 (pos 0) (pos 0) (pos 0) (pos 40) (pos 88) (pos 0) (pos 0) (pos 0)
    ∷ row8 (pos 0) (pos 0) (pos 0) (pos 32) (pos 96) (pos 0) (pos 0) (pos 0)
    ∷ row8 (pos 0) (pos 0) (pos 0) (pos 24) (pos 104) (pos 0) (pos 0) (pos 0)
    ∷ row8 (pos 0) (pos 0) (pos 0) (pos 16) (pos 112) (pos 0) (pos 0) (pos 0)
    ∷ row8 (pos 0) (pos 0) (pos 0) (pos 8) (pos 120) (pos 0) (pos 0) (pos 0)
    ∷ []

unfoldable pub filters : List (List (List ℤ))
filters = regular ∷ smooth ∷ sharp ∷ bilinear ∷ []

unfoldable pub tap : ℕ → ℕ → ℕ → ℤ
tap filter phase t = get_or (get_or (get_or filters filter []) phase []) t (pos 0)
